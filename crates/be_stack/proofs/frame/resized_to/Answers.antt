use Rattle.std.proofs.Common.{arith}
use Rattle.std.proofs.lemmas.Int.{ints}
use Rattle.be_stack.proofs.FrameLemmas.{kept_in_range, resized_fits}
use Rattle.be_stack.proofs.frame.resized_to.Goals as goal

pub returns-in-Some-Some : goal.returns-in-Some-Some
returns-in-Some-Some c =
    resized_fits c.args.frame c.args.width c.args.height _ _ _ _ (omega (arith, ints)) (omega (arith, ints)) (omega (arith, ints, c.in-Some-Some.ensures.moved)) (omega (arith, ints, c.in-Some-Some.ensures'.moved)) (kept_in_range c.args.frame.left) (kept_in_range c.args.frame.top) (kept_in_range c.in-Some-Some.right) (kept_in_range c.in-Some-Some.bottom)
