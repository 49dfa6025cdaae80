use Rattle.std.proofs.Common.{arith, pos, sym}
use Rattle.std.proofs.lemmas.Int.{ints, to_z-of_z}
use Rattle.be_geom.proofs.Between.{between_tells}
use Rattle.be_command.proofs.JudgingLemmas.{numbered_within}
use Rattle.be_command.proofs.judging.extent.Goals as goal

pub overflow_cast-result : goal.overflow_cast-result
overflow_cast-result c =
    let within = numbered_within (pos 0) (pos 32767) _ _ (sym c.in_ok-number.ensures) in
    grind (arith, ints, to_z-of_z, between_tells)

pub returns : goal.returns
returns c =
    let within = numbered_within (pos 0) (pos 32767) _ _ (sym c.in_ok-number.ensures) in
    grind (arith, ints, to_z-of_z, between_tells, c.in_ok-number.ensures)
