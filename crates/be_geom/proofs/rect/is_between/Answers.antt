use Rattle.std.proofs.Common.{arith}
use Rattle.std.proofs.lemmas.Int.{ints}
use Rattle.be_geom.specs.Points.{between}
use Rattle.be_geom.proofs.rect.is_between.Goals as goal

pub returns-then-low-z : goal.returns-then-low-z
unfolding between
returns-then-low-z c = grind (arith, ints)

pub returns-else-low-z : goal.returns-else-low-z
unfolding between
returns-else-low-z c = grind (arith, ints)
