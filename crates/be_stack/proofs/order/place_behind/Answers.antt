use Rattle.be_stack.proofs.OrderLemmas.{put_after, put_last}
use Rattle.be_stack.proofs.order.place_behind.Goals as goal

pub returns-in-Some-clause-behind : goal.returns-in-Some-clause-behind
returns-in-Some-clause-behind c = λ w. put_after c.args.front w c.args.order.now c.in-Some.place c.in-Some.ensures

pub returns-in-None-clause-behind : goal.returns-in-None-clause-behind
returns-in-None-clause-behind c = λ w. put_last c.args.front w c.args.order.now c.in-None.ensures
