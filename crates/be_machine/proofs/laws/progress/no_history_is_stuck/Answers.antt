use Rattle.be_machine.proofs.ProgressGoesOn.{goes_on}
use Rattle.be_machine.proofs.laws.progress.no_history_is_stuck.Goals as goal

pub returns : goal.returns
returns c = goes_on
