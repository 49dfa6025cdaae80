-- The pixels of a bitmap off the screen, by their places and by their numbers.
use Rattle.std.proofs.Common.{◌≡◌, ℕ, ◌+◌, ◌*◌, ◌/◌, ◌%◌, ◌<◌, ◌≤◌, ℤ, pos, negsuc, ◌-ℤ◌}
use Rattle.std.proofs.Common.{Bool, true, false, ◌&&◌, List, [], length, get_or}
use Rattle.std.proofs.Common.{Some, None, refl, arith}
use Rattle.std.specs.Prelude.{nat_lt, slice_get, if◌then◌else◌}
use Rattle.std.proofs.lemmas.Bool.{and_parts}
use Rattle.std.proofs.lemmas.Bool.Decides.{nat_tests}
use Rattle.std.proofs.lemmas.Int.{ints}
use Rattle.std.proofs.lemmas.Option.{slice_get-get_or, slice_get_past}
use Rattle.std.proofs.Math.Nat.{div-add-mod, div-lt_iff_lt-mul, mul-le-mul_right}
use Rattle.be_geom.specs.Points.{between}
use Rattle.be_geom.specs.Rects.{rect_has}
use Rattle.be_geom.proofs.Between.{between_tells}
use Rattle.be_span.specs.Screen.{cell_at}
use Rattle.be_span.specs.declared.Cell.{Cell}
use Rattle.be_picture.specs.OffScreens.{IsSized}
use Rattle.be_picture.specs.Playing.{OffScreen, bounds}

-- ---- inside and outside

-- a place inside: its column and its row
pub record IsInside (width height : ℕ) (x y : ℤ) : Type 0 where
  pub column : ℕ
  pub row : ℕ
  pub x_is : x ≡ pos column
  pub y_is : y ≡ pos row
  pub left : column < width
  pub above : row < height

inside_at : (width height : ℕ) (x y : ℤ) → 1 ≤ width → 1 ≤ height
    → between (pos 0) x (pos width -ℤ pos 1) ≡ true
    → between (pos 0) y (pos height -ℤ pos 1) ≡ true → IsInside width height x y
inside_at width height (pos x) (pos y) w h across down = record {
  column = x;
  row = y;
  x_is = refl;
  y_is = refl;
  left = grind (arith, ints, between_tells);
  above = grind (arith, ints, between_tells);
}
inside_at width height (pos x) (negsuc y) w h across down =
    absurd (grind (arith, ints, between_tells))
inside_at width height (negsuc x) y w h across down = absurd (grind (arith, ints, between_tells))

pub is_inside : (off : OffScreen) (x y : ℤ) → IsSized off.width off.height
    → rect_has (bounds off) x y ≡ true → IsInside off.width off.height x y
is_inside off x y sized has =
    let parts = and_parts (between (pos 0) x (pos off.width -ℤ pos 1))
    (between (pos 0) y (pos off.height -ℤ pos 1)) has in
    inside_at off.width off.height x y sized.some_columns sized.some_rows parts.0 parts.1

-- the number of a place is among those of all
pub number_fits : (width height column row : ℕ) → column < width → row < height
    → row * width + column < width * height
number_fits width height column row left above =
    let rows : (row + 1) * width ≤ height * width = mul-le-mul_right width (omega arith) in
    omega (arith, rows)

-- inside there is a cell, the one with the place's number
pub cell_inside : (width height : ℕ) (cells : List Cell) (column row : ℕ) (d : Cell)
    → length cells ≡ width * height → column < width → row < height
    → cell_at width cells (pos column) (pos row) ≡ Some (get_or cells (row * width + column) d)
unfolding cell_at
cell_inside width height cells column row d filled left above =
    let within : nat_lt column width ≡ true = grind (arith, nat_tests) in
    let fits = number_fits width height column row left above in
    rw within (slice_get-get_or cells (row * width + column) d (omega (arith, filled, fits)))

-- outside there is none
none_at : (width height : ℕ) (cells : List Cell) (column row : ℕ) (b : Bool)
    → length cells ≡ width * height → nat_lt column width ≡ b
    → (column < width → row < height → ⊥)
    → (if b then slice_get cells (row * width + column) else None) ≡ None
none_at width height cells column row true filled within out =
    let left : column < width = grind (arith, nat_tests) in
    let below : height ≤ row = omega (arith, out left) in
    let rows : height * width ≤ row * width = mul-le-mul_right width below in
    slice_get_past cells (row * width + column) (omega (arith, filled, rows))
none_at width height cells column row false filled within out = refl

outside_at : (width height : ℕ) (cells : List Cell) (x y : ℤ) → length cells ≡ width * height
    → 1 ≤ width → 1 ≤ height
    → (between (pos 0) x (pos width -ℤ pos 1) && between (pos 0) y (pos height -ℤ pos 1)) ≡ false
    → cell_at width cells x y ≡ None
unfolding cell_at
outside_at width height cells (pos x) (pos y) filled w h out =
    none_at width height cells x y (nat_lt x width) filled refl (λ left above.
    let across : between (pos 0) (pos x) (pos width -ℤ pos 1) ≡ true =
    grind (arith, ints, between_tells) in
    let down : between (pos 0) (pos y) (pos height -ℤ pos 1) ≡ true =
    grind (arith, ints, between_tells) in
    let no : true ≡ false = rw (across, down) at out in absurd (cc))
outside_at width height cells (pos x) (negsuc y) filled w h out = refl
outside_at width height cells (negsuc x) y filled w h out = refl

pub cell_outside : (off : OffScreen) (cells : List Cell) (x y : ℤ) → IsSized off.width off.height
    → length cells ≡ off.width * off.height → rect_has (bounds off) x y ≡ false
    → cell_at off.width cells x y ≡ None
cell_outside off cells x y sized filled out =
    outside_at off.width off.height cells x y filled sized.some_columns sized.some_rows out

-- ---- places by their numbers

pub record IsPlace (width height k : ℕ) : Type 0 where
  pub left : k % width < width
  pub above : k / width < height
  pub number : (k / width) * width + k % width ≡ k

pub place_of_number : (width height k : ℕ) → 1 ≤ width → k < width * height → IsPlace width height k
place_of_number width height k w fits =
    let rows : k < height * width = omega (arith, fits) in
    let whole : width * (k / width) + k % width ≡ k = div-add-mod k width in
    record {
      left = omega arith;
      above = (div-lt_iff_lt-mul {k = width} {x = k} {y = height} w).1 rows;
      number = omega (arith, whole);
    }

pub inside_side : (side n : ℕ) → n < side → between (pos 0) (pos n) (pos side -ℤ pos 1) ≡ true
inside_side side n few = grind (arith, ints, between_tells)

pub number_is_inside : (off : OffScreen) (k : ℕ) → IsSized off.width off.height
    → k < off.width * off.height
    → rect_has (bounds off) (pos (k % off.width)) (pos (k / off.width)) ≡ true
number_is_inside off k sized fits =
    let place = place_of_number off.width off.height k sized.some_columns fits in
    rw (
      inside_side off.width (k % off.width) place.left,
      inside_side off.height (k / off.width) place.above,
    ) refl
