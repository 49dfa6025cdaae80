use Rattle.std.proofs.Common.{ℤ, ◌-ℤ◌, Bool, ◌&&◌, refl}
use Rattle.be_geom.specs.Rects.{rect_has}
use Rattle.be_span.specs.Slices.{painted}
use Rattle.be_descent.specs.Drawing.{may_draw}
use Rattle.be_descent.specs.Inks.{masks_have}
use Rattle.be_descent.specs.Places.{has_moved}
use Rattle.be_descent.specs.declared.letters.TheConstants.{BITS}
use Rattle.be_descent.proofs.InkLemmas.{in_bits}
use Rattle.be_descent.proofs.PaintLemmas.{same_painted}
use Rattle.be_descent.proofs.RegionLemmas.{letter_test}
use Rattle.be_descent.proofs.letters.paint_letters.Goals as goal

pub returns : goal.returns
returns c =
    let area = c.args.area in
    let letters = c.args.letters.now in
    let may : ℤ → ℤ → Bool = λ x y. may_draw c.args.reach.now x y in
    let have : ℤ → ℤ → Bool = masks_have letters.masks.now letters.way in
    same_painted (λ x y. painted letters.brush letters.color)
    (λ x y. rect_has area x y && (has_moved BITS letters.way x y && (may x y && have x y)))
    (λ x y. rect_has area x y && (have x y && may x y)) c.args.spans.now c.paint_boxed.new.spans
    (λ x y. letter_test (rect_has area x y) (has_moved BITS letters.way x y) (may x y) (have x y)
    (in_bits BITS letters.masks.now (x -ℤ letters.way.right) (y -ℤ letters.way.down) refl refl refl
    refl)) c.paint_boxed.ensures
