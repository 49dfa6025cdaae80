use Rattle.be_stack.proofs.LawLemmas.{order_whole}
use Rattle.be_stack.proofs.law.order_stays_whole.Goals as goal

pub returns : goal.returns
returns c = order_whole
