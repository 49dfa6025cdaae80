use Rattle.std.proofs.Common.{arith}
use Rattle.std.proofs.lemmas.Int.{ints, clamps}
use Rattle.be_shape.proofs.BetweenLemmas.{same_ends}
use Rattle.be_shape.proofs.pen.PenSize.swept.Goals as goal

pub returns-clause-sound : goal.returns-clause-sound
returns-clause-sound c =
    let least = c.min.ensures.value in
    let most = c.max.ensures.value in
    record {
      low = omega (arith, ints, clamps);
      forward = omega (arith, ints, clamps);
      high = omega (arith, ints, clamps);
    }

pub returns-clause-all : goal.returns-clause-all
returns-clause-all c z =
    let least = c.min.ensures.value in
    let most = c.max.ensures.value in
    same_ends _ _ _ _ _ (omega (arith, ints, clamps)) (omega (arith, ints, clamps))

pub returns-clause-first : goal.returns-clause-first
returns-clause-first c = let least = c.min.ensures.value in omega (arith, ints, clamps)

pub returns-clause-last : goal.returns-clause-last
returns-clause-last c = let most = c.max.ensures.value in omega (arith, ints, clamps)
