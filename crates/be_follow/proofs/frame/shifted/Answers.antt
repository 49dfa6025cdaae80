use Rattle.std.proofs.Common.{arith, ◌≡◌, false, true, ◌+ℤ◌}
use Rattle.std.proofs.lemmas.Int.{ints, to_z-of_z}
use Rattle.be_geom.specs.Points.{in_range}
use Rattle.be_geom.proofs.RectLemmas.{none_fails, same_rects}
use Rattle.be_follow.proofs.FrameLemmas.{right_leaves, bottom_leaves}
use Rattle.be_follow.proofs.frame.shifted.Goals as goal

pub returns-in_err-moved-3-clause-out : goal.returns-in_err-moved-3-clause-out
returns-in_err-moved-3-clause-out c =
    let right : in_range (c.args.frame.right +ℤ c.args.right) ≡ false = grind (arith, ints, to_z-of_z, c.in_err-moved-3.ensures.out) in
    (λ _. right_leaves c.args.frame c.args.left c.args.top c.args.right c.args.bottom right, λ _. cc)

pub returns-in_err-moved-4-clause-out : goal.returns-in_err-moved-4-clause-out
returns-in_err-moved-4-clause-out c =
    let bottom : in_range (c.args.frame.bottom +ℤ c.args.bottom) ≡ false = grind (arith, ints, to_z-of_z, c.in_err-moved-4.ensures.out) in
    (λ _. bottom_leaves c.args.frame c.args.left c.args.top c.args.right c.args.bottom bottom, λ _. cc)

pub returns-clause-shifted : goal.returns-clause-shifted
returns-clause-shifted c = same_rects _ _ _ _ _ _ _ _ (omega (arith, ints, c.in_ok-moved.ensures.moved)) (omega (arith, ints, c.in_ok-moved-2.ensures.moved)) (omega (arith, ints, c.in_ok-moved-3.ensures.moved)) (omega (arith, ints, c.in_ok-moved-4.ensures.moved))

pub returns-clause-out : goal.returns-clause-out
returns-clause-out c =
    let left : in_range (c.args.frame.left +ℤ c.args.left) ≡ false → false ≡ true = grind (arith, ints, to_z-of_z, c.in_ok-moved.ensures.out) in
    let top : in_range (c.args.frame.top +ℤ c.args.top) ≡ false → false ≡ true = grind (arith, ints, to_z-of_z, c.in_ok-moved-2.ensures.out) in
    let right : in_range (c.args.frame.right +ℤ c.args.right) ≡ false → false ≡ true = grind (arith, ints, to_z-of_z, c.in_ok-moved-3.ensures.out) in
    let bottom : in_range (c.args.frame.bottom +ℤ c.args.bottom) ≡ false → false ≡ true = grind (arith, ints, to_z-of_z, c.in_ok-moved-4.ensures.out) in
    (λ h. cc, none_fails _ _ _ _ left top right bottom)
