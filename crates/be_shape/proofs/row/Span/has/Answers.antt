use Rattle.std.proofs.Common.{arith}
use Rattle.std.proofs.lemmas.Int.{ints}
use Rattle.be_geom.specs.Points.{between}
use Rattle.be_shape.proofs.row.Span.has.Goals as goal

pub returns-then-self-z : goal.returns-then-self-z
unfolding between
returns-then-self-z c = grind (arith, ints)

pub returns-else-self-z : goal.returns-else-self-z
unfolding between
returns-else-self-z c = grind (arith, ints)
