use Rattle.be_machine.proofs.KeptCommands.{idle_at_send}
use Rattle.be_machine.proofs.laws.limits.a_cell_is_idle_at_a_send.Goals as goal

pub returns : goal.returns
returns c = idle_at_send
