use Rattle.std.proofs.Common.{arith}
use Rattle.std.proofs.lemmas.Int.{ints}
use Rattle.be_geom.specs.Points.{between}
use Rattle.desk_screen.proofs.asking.is_size.Goals as goal

pub returns : goal.returns
unfolding between
returns c = grind (arith, ints)
