use Rattle.std.proofs.Common.{arith}
use Rattle.std.proofs.lemmas.Int.{ints}
use Rattle.be_geom.specs.Points.{between}
use Rattle.be_views.proofs.children.is_between.Goals as goal

pub returns-then-from-z : goal.returns-then-from-z
unfolding between
returns-then-from-z c = grind (arith, ints)

pub returns-else-from-z : goal.returns-else-from-z
unfolding between
returns-else-from-z c = grind (arith, ints)
