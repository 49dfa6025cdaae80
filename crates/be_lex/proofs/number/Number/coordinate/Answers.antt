use Rattle.std.proofs.Common.{arith}
use Rattle.std.proofs.lemmas.Int.{ints, to_z-of_z}
use Rattle.be_geom.proofs.Between.{between_tells}
use Rattle.be_lex.proofs.number.Number.coordinate.Goals as goal

pub overflow_cast-result : goal.overflow_cast-result
overflow_cast-result c = grind (arith, ints, to_z-of_z, between_tells)

pub returns : goal.returns
returns c = grind (arith, ints, to_z-of_z, between_tells)
