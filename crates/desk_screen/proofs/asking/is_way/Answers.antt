use Rattle.std.proofs.Common.{arith}
use Rattle.std.proofs.lemmas.Int.{ints}
use Rattle.be_geom.specs.Points.{between}
use Rattle.desk_screen.proofs.asking.is_way.Goals as goal

pub returns-then-way-geminus65535 : goal.returns-then-way-geminus65535
unfolding between
returns-then-way-geminus65535 c = grind (arith, ints)

pub returns-else-way-geminus65535 : goal.returns-else-way-geminus65535
unfolding between
returns-else-way-geminus65535 c = grind (arith, ints)
