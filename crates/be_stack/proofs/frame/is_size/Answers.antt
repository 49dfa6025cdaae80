use Rattle.std.proofs.Common.{arith}
use Rattle.std.proofs.lemmas.Int.{ints}
use Rattle.be_geom.specs.Points.{between}
use Rattle.be_stack.proofs.frame.is_size.Goals as goal

pub returns-then-first-last : goal.returns-then-first-last
unfolding between
returns-then-first-last c = grind (arith, ints)

pub returns-else-first-last : goal.returns-else-first-last
unfolding between
returns-else-first-last c = grind (arith, ints)
