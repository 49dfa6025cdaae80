use Rattle.be_desk.proofs.StandLemmas.{carried_as_machine}
use Rattle.be_desk.proofs.law.a_change_is_carried_out_in_the_windows.Goals as goal

pub returns : goal.returns
returns c = carried_as_machine
