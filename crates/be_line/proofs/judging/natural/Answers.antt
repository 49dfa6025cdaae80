use Rattle.std.proofs.Common.{arith, sym, to_z, of_z, w32}
use Rattle.std.proofs.lemmas.Int.{ints, to_z-of_z}
use Rattle.be_geom.proofs.Between.{between_tells}
use Rattle.be_command.proofs.JudgingLemmas.{numbered_within}
use Rattle.be_line.proofs.judging.natural.Goals as goal

pub overflow_cast-result : goal.overflow_cast-result
overflow_cast-result c =
    let within = numbered_within (to_z w32 (of_z w32 c.from.result)) (to_z w32 (of_z w32 c.from-2.result)) _ _ (sym c.in_ok-number.ensures) in
    grind (arith, ints, to_z-of_z, between_tells, c.from.ensures, c.from-2.ensures)
