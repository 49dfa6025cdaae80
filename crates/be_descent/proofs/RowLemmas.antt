-- The rows of an area that a shape has.
use Rattle.std.proofs.Common.{◌≡◌, ℤ, ◌+ℤ◌, ◌-ℤ◌, ◌≤ℤ◌, ◌<ℤ◌, Bool, true, false, ◌&&◌, refl, arith}
use Rattle.std.specs.Int.{int_max, int_min}
use Rattle.std.proofs.lemmas.Int.{ints, clamps}
use Rattle.be_geom.specs.declared.rect.Rect.{Rect}
use Rattle.be_geom.specs.Rects.{rect_has}
use Rattle.be_shape.specs.Runs.{AreRows}
use Rattle.be_shape.specs.declared.Raster.{Raster}
use Rattle.be_span.proofs.GridLemmas.{in_from}
use Rattle.be_descent.specs.declared.way.Way.{Way}
use Rattle.be_descent.specs.Inks.{shape_has, AreRowsIn}

pub rows_are : (raster : Raster) (way : Way) (area : Rect) (first last top bottom : ℤ)
    → AreRows raster first last → top ≡ int_max area.top (first +ℤ way.down)
    → bottom ≡ int_min area.bottom (last +ℤ way.down) → top ≤ℤ bottom → AreRowsIn raster way area
    record { left = area.left; top = top; right = area.right; bottom = bottom }
rows_are raster way area first last top bottom rows t b order = record {
  left = refl;
  right = refl;
  top = omega (arith, ints, clamps, t);
  down = order;
  bottom = omega (arith, ints, clamps, b);
  each = λ y low high. rows.each (y -ℤ way.down) (omega (arith, ints, clamps, t, low))
      (omega (arith, ints, clamps, b, high));
  within = λ x y has is.
      let i = in_from area x y has in
      let it = i.top in
      let ib = i.bottom in
      let r = rows.within (x -ℤ way.right) (y -ℤ way.down) is in
      let rf = r.0 in
      let rl = r.1 in
      (omega (arith, ints, clamps, t, it, rf), omega (arith, ints, clamps, b, ib, rl));
}

not_both : (a b : Bool) → (a ≡ true → b ≡ true → ⊥) → (a && b) ≡ false
not_both true true h = absurd (h refl refl)
not_both true false h = refl
not_both false b h = refl

pub no_rows : (raster : Raster) (way : Way) (area : Rect) (first last top bottom : ℤ)
    → AreRows raster first last → top ≡ int_max area.top (first +ℤ way.down)
    → bottom ≡ int_min area.bottom (last +ℤ way.down) → bottom <ℤ top → (x y : ℤ)
    → (rect_has area x y && shape_has raster way x y) ≡ false
no_rows raster way area first last top bottom rows t b order x y =
    not_both (rect_has area x y) (shape_has raster way x y) (λ has is.
    let i = in_from area x y has in
    let it = i.top in
    let ib = i.bottom in
    let r = rows.within (x -ℤ way.right) (y -ℤ way.down) is in
    let rf = r.0 in
    let rl = r.1 in
    omega (arith, ints, clamps, t, b, order, it, ib, rf, rl))
