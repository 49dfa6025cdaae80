use Rattle.be_stack.proofs.ActiveLemmas.{active_shown}
use Rattle.be_stack.proofs.law.active_stays_shown.Goals as goal

pub returns : goal.returns
returns c = active_shown
