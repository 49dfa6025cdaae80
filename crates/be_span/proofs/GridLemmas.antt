-- Where the pixels of one rectangle stand.
use Rattle.std.proofs.Common.{◌≡◌, ℕ, ◌+◌, ◌*◌, ◌/◌, ◌%◌, ◌<◌, ℤ, pos, ◌+ℤ◌, ◌-ℤ◌, ◌≤ℤ◌, true, refl, ap, ◌∙◌, arith}
use Rattle.std.specs.Prelude.{unsigned_abs}
use Rattle.std.proofs.lemmas.Int.{ints}
use Rattle.std.proofs.lemmas.Nat.{mul-add-lt, same_from_place, div_below, div-add-mod'}
use Rattle.std.proofs.lemmas.Bool.{and_parts}
use Rattle.be_facts.proofs.Numbers.{unsigned_abs_is}
use Rattle.be_geom.specs.declared.rect.Rect.{Rect}
use Rattle.be_geom.specs.Points.{between}
use Rattle.be_geom.specs.Rects.{rect_has}
use Rattle.be_geom.proofs.Between.{is_between}
use Rattle.be_region.specs.Regions.{IsNotEmpty}
use Rattle.be_span.specs.Spans.{width_of, height_of, area_of, place_in}

between_parts : (low z high : ℤ) → between low z high ≡ true → (low ≤ℤ z) × (z ≤ℤ high)
unfolding between
between_parts low z high e = (grind (arith, ints), grind (arith, ints))

-- the rectangle has the pixel
pub record IsIn (r : Rect) (x y : ℤ) : Type 0 where
  pub left : r.left ≤ℤ x
  pub right : x ≤ℤ r.right
  pub top : r.top ≤ℤ y
  pub bottom : y ≤ℤ r.bottom

pub in_from : (r : Rect) (x y : ℤ) → rect_has r x y ≡ true → IsIn r x y
in_from r x y e =
    let parts = and_parts (between r.left x r.right) (between r.top y r.bottom) e in
    let across = between_parts r.left x r.right parts.0 in
    let down = between_parts r.top y r.bottom parts.1 in
    record { left = across.0; right = across.1; top = down.0; bottom = down.1 }

pub has_from : (r : Rect) (x y : ℤ) → IsIn r x y → rect_has r x y ≡ true
has_from r x y h = rw (is_between r.left x r.right h.left h.right, is_between r.top y r.bottom h.top h.bottom) refl

pub wide_is : (r : Rect) → r.left ≤ℤ r.right → pos (width_of r) ≡ r.right -ℤ r.left +ℤ pos 1
wide_is r h = unsigned_abs_is (r.right -ℤ r.left +ℤ pos 1) (omega (arith, ints))

pub high_is : (r : Rect) → r.top ≤ℤ r.bottom → pos (height_of r) ≡ r.bottom -ℤ r.top +ℤ pos 1
high_is r h = unsigned_abs_is (r.bottom -ℤ r.top +ℤ pos 1) (omega (arith, ints))

-- the row and the column of a pixel, counted from the rectangle's left top
pub record IsCellOf (r : Rect) (x y : ℤ) (row column width height : ℕ) : Type 0 where
  pub row_is : pos row ≡ y -ℤ r.top
  pub column_is : pos column ≡ x -ℤ r.left
  pub width_is : pos width ≡ r.right -ℤ r.left +ℤ pos 1
  pub height_is : pos height ≡ r.bottom -ℤ r.top +ℤ pos 1

abbrev pub row_in : Rect → ℤ → ℕ
row_in r y = unsigned_abs (y -ℤ r.top)

abbrev pub column_in : Rect → ℤ → ℕ
column_in r x = unsigned_abs (x -ℤ r.left)

pub cell_of : (r : Rect) (x y : ℤ) → IsIn r x y → IsCellOf r x y (row_in r y) (column_in r x) (width_of r) (height_of r)
cell_of r x y h =
    let left = h.left in let right = h.right in let top = h.top in let bottom = h.bottom in
    record {
      row_is = unsigned_abs_is (y -ℤ r.top) (omega (arith, ints));
      column_is = unsigned_abs_is (x -ℤ r.left) (omega (arith, ints));
      width_is = unsigned_abs_is (r.right -ℤ r.left +ℤ pos 1) (omega (arith, ints));
      height_is = unsigned_abs_is (r.bottom -ℤ r.top +ℤ pos 1) (omega (arith, ints));
    }

pub column_below : (r : Rect) (x y : ℤ) (row column width height : ℕ) → IsIn r x y → IsCellOf r x y row column width height → (row < height) × (column < width)
column_below r x y row column width height h c =
    let left = h.left in let right = h.right in let top = h.top in let bottom = h.bottom in
    let a = c.row_is in let b = c.column_is in let d = c.width_is in let e = c.height_is in
    (omega (arith, ints), omega (arith, ints))

pub place_in_below : (r : Rect) (x y : ℤ) → IsIn r x y → place_in r x y < area_of r
unfolding place_in area_of
place_in_below r x y h =
    let below = column_below r x y _ _ _ _ h (cell_of r x y h) in
    mul-add-lt-turned (row_in r y) (width_of r) (column_in r x) (height_of r) below.0 below.1
  where
    mul-add-lt-turned : (a w b h : ℕ) → a < h → b < w → a * w + b < h * w
    mul-add-lt-turned a w b h p q = omega (arith, mul-add-lt a w b h p q)

-- the columns of two cells are less than the width
pub place_in_same : (r : Rect) (x y z w : ℤ) → IsIn r x y → IsIn r z w → place_in r x y ≡ place_in r z w → (x ≡ z) × (y ≡ w)
unfolding place_in
place_in_same r x y z w h k e =
    let c = cell_of r x y h in let d = cell_of r z w k in
    let same = same_from_place (row_in r y) (column_in r x) (row_in r w) (column_in r z) (width_of r) (column_below r x y _ _ _ _ h c).1 (column_below r z w _ _ _ _ k d).1 e in
    same_cell r x y z w _ _ _ _ _ _ c d same.0 same.1
  where
    same_cell : (r : Rect) (x y z w : ℤ) (row column width height row' column' : ℕ) → IsCellOf r x y row column width height → IsCellOf r z w row' column' width height → row ≡ row' → column ≡ column' → (x ≡ z) × (y ≡ w)
    same_cell r x y z w row column width height row' column' c d e f =
        let a = c.row_is in let b = c.column_is in let a' = d.row_is in let b' = d.column_is in
        (omega (arith, ints), omega (arith, ints))

pub place_in_next : (r : Rect) (x y : ℤ) (k : ℕ) → IsIn r x y → IsIn r (x +ℤ pos k) y → place_in r (x +ℤ pos k) y ≡ place_in r x y + k
unfolding place_in
place_in_next r x y k h m = next (unsigned_abs (y -ℤ r.top) * width_of r) _ _ k (cell_of r x y h).column_is (cell_of r (x +ℤ pos k) y m).column_is
  where
    next : (a column column' k : ℕ) → pos column ≡ x -ℤ r.left → pos column' ≡ x +ℤ pos k -ℤ r.left → a + column' ≡ a + column + k
    next a column column' k e f = omega (arith, ints)

pub place_in_row : (r : Rect) (x y : ℤ) (m k : ℕ) → IsIn r x y → r.top +ℤ pos m ≡ y → r.left +ℤ pos k ≡ x → place_in r x y ≡ m * width_of r + k
unfolding place_in
place_in_row r x y m k h down across =
    let c = cell_of r x y h in
    same (row_in r y) (column_in r x) (width_of r) (row_same (row_in r y) c.row_is) (column_same (column_in r x) c.column_is)
  where
    row_same : (row : ℕ) → pos row ≡ y -ℤ r.top → row ≡ m
    row_same row e = omega (arith, ints)

    column_same : (column : ℕ) → pos column ≡ x -ℤ r.left → column ≡ k
    column_same column e = omega (arith, ints)

    same : (row column w : ℕ) → row ≡ m → column ≡ k → row * w + column ≡ m * w + k
    same row column w e f = ap (λ n. n * w + column) e ∙ ap (λ n. m * w + n) f

-- each of a rectangle's cells is some pixel's
pub pixel_in_rect : (r : Rect) (n : ℕ) → IsNotEmpty r → n < area_of r → (x : ℤ) × ((y : ℤ) × ((rect_has r x y ≡ true) × (place_in r x y ≡ n)))
unfolding area_of
pixel_in_rect r n some less =
    let across = some.across in
    let wide = wide_is r across in
    let high = high_is r some.down in
    let some_wide : 0 < width_of r = omega (arith, ints) in
    let row = div_below n (width_of r) (height_of r) some_wide less in
    let column : n % width_of r < width_of r = omega arith in
    let inside = is_in (width_of r) (height_of r) (n / width_of r) (n % width_of r) wide high row column in
    (r.left +ℤ pos (n % width_of r), (r.top +ℤ pos (n / width_of r), (has_from r _ _ inside, place_in_row r _ _ (n / width_of r) (n % width_of r) inside refl refl ∙ div-add-mod' n (width_of r))))
  where
    is_in : (w h row column : ℕ) → pos w ≡ r.right -ℤ r.left +ℤ pos 1 → pos h ≡ r.bottom -ℤ r.top +ℤ pos 1 → row < h → column < w → IsIn r (r.left +ℤ pos column) (r.top +ℤ pos row)
    is_in w h row column wide high down across =
        record { left = omega (arith, ints); right = omega (arith, ints); top = omega (arith, ints); bottom = omega (arith, ints) }
