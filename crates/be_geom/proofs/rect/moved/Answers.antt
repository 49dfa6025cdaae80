use Rattle.std.proofs.Common.{arith}
use Rattle.std.proofs.lemmas.Int.{ints}
use Rattle.be_geom.proofs.Between.{between_tells}
use Rattle.be_geom.proofs.rect.moved.Goals as goal

pub returns-clause-out : goal.returns-clause-out
returns-clause-out c = grind (arith, ints, between_tells)
