use Rattle.std.proofs.Common.{arith}
use Rattle.std.proofs.lemmas.Int.{ints, to_z-of_z}
use Rattle.be_geom.proofs.Between.{between_tells}
use Rattle.be_lex.proofs.Ranges.{between_is_small}
use Rattle.be_lex.proofs.number.Number.between.Goals as goal

pub returns-in_err-number : goal.returns-in_err-number
returns-in_err-number c =
    rw c.from_residual.ensures (λ h. c.in_err-number.ensures (between_is_small c.args.low c.args.self.now c.args.high (grind (arith, ints)) (grind (arith, ints)) h))

pub returns-then-number-from : goal.returns-then-number-from
returns-then-number-from c = (grind (arith, ints, to_z-of_z, between_tells), grind (arith, ints, to_z-of_z))

pub returns-else-from-number : goal.returns-else-from-number
returns-else-from-number c = grind (arith, ints, to_z-of_z, between_tells)
