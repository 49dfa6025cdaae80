use Rattle.std.proofs.Common.{arith}
use Rattle.std.proofs.lemmas.Int.{ints, to_z-of_z}
use Rattle.be_geom.proofs.Between.{between_tells}
use Rattle.be_stack.proofs.frame.moved.Goals as goal

pub returns-clause-out : goal.returns-clause-out
returns-clause-out c = (λ h. grind (arith, ints, to_z-of_z, between_tells), λ h. grind (arith, ints, to_z-of_z, between_tells))
