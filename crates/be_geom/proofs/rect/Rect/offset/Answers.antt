use Rattle.std.proofs.Common.{arith, ◌≡◌, false, true, ◌+ℤ◌}
use Rattle.std.proofs.lemmas.Int.{ints, to_z-of_z}
use Rattle.be_geom.specs.Points.{in_range}
use Rattle.be_geom.proofs.RectLemmas.{none_fails}
use Rattle.be_geom.proofs.rect.Rect.offset.Goals as goal

pub returns-clause-out : goal.returns-clause-out
returns-clause-out c =
    let left : in_range (c.args.self.left +ℤ c.args.dx) ≡ false → false ≡ true = grind (arith, ints, to_z-of_z, c.in_ok-moved.ensures.out) in
    let top : in_range (c.args.self.top +ℤ c.args.dy) ≡ false → false ≡ true = grind (arith, ints, to_z-of_z, c.in_ok-moved-2.ensures.out) in
    let right : in_range (c.args.self.right +ℤ c.args.dx) ≡ false → false ≡ true = grind (arith, ints, to_z-of_z, c.in_ok-moved-3.ensures.out) in
    let bottom : in_range (c.args.self.bottom +ℤ c.args.dy) ≡ false → false ≡ true = grind (arith, ints, to_z-of_z, c.in_ok-moved-4.ensures.out) in
    (λ h. cc, none_fails _ _ _ _ left top right bottom)
