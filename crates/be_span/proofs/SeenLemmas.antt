-- The cells of a region's pixels, read from those that are kept.
use Rattle.std.proofs.Common.{◌≡◌, ℕ, zero, suc, ◌+◌, ◌*◌, ◌<◌, ℤ, pos, ◌+ℤ◌, ◌-ℤ◌, true, false, List, [], ◌∷◌, length, slice_get, Some, None, inl, inr, refl, sym, ap, ◌∙◌, arith, length-append}
use Rattle.std.specs.Prelude.{option_and_then}
use Rattle.std.proofs.lemmas.Int.{ints}
use Rattle.std.proofs.lemmas.Option.{none-some}
use Rattle.be_facts.proofs.Numbers.{plus_zero}
use Rattle.be_geom.specs.declared.rect.Rect.{Rect}
use Rattle.be_region.specs.Regions.{region_has}
use Rattle.be_span.specs.Cells.{Lookup}
use Rattle.be_span.specs.Seen.{IsSeen, cells_at, cells_down, cells_right, or_black, seen}
use Rattle.be_span.specs.Spans.{Spans, area_of, cell_in, height_of, pixels_of, place_in, place_of, width_of}
use Rattle.be_span.proofs.CellLemmas.{append_left, append_right, cell_none, cell_some}
use Rattle.be_span.proofs.GridLemmas.{IsIn, cell_of, column_below, column_in, in_from, place_in_below, row_in}
use Rattle.be_span.proofs.PlaceLemmas.{place_found, place_parts}

-- ---- one by one

pub right_length : (at : Lookup) (x y : ℤ) (n : ℕ) → length (cells_right at x y n) ≡ n
right_length at x y zero = refl
right_length at x y (suc n) = ap suc (right_length at (x +ℤ pos 1) y n)

right_get : (at : Lookup) (x y : ℤ) (n k : ℕ) → k < n → slice_get (cells_right at x y n) k ≡ Some (or_black (at (x +ℤ pos k) y))
right_get at x y zero k less = absurd (omega arith)
right_get at x y (suc n) zero less = ap (λ z. Some (or_black (at z y))) (sym (plus_zero x))
right_get at x y (suc n) (suc k) less =
    right_get at (x +ℤ pos 1) y n k (omega arith) ∙ ap (λ z. Some (or_black (at z y))) (further x)
  where
    further : (x : ℤ) → x +ℤ pos 1 +ℤ pos k ≡ x +ℤ pos (suc k)
    further x = omega (arith, ints)

down_length : (at : Lookup) (x y : ℤ) (w n : ℕ) → length (cells_down at x y w n) ≡ n * w
down_length at x y w zero = omega arith
down_length at x y w (suc n) =
    let rest = down_length at x (y +ℤ pos 1) w n in
    let row = right_length at x y w in
    length-append (cells_right at x y w) (cells_down at x (y +ℤ pos 1) w n) ∙ more (length (cells_right at x y w)) (length (cells_down at x (y +ℤ pos 1) w n)) row rest
  where
    more : (a b : ℕ) → a ≡ w → b ≡ n * w → a + b ≡ suc n * w
    more a b e f = omega arith

down_get : (at : Lookup) (x y : ℤ) (w n row k i : ℕ) → row < n → k < w → i ≡ row * w + k → slice_get (cells_down at x y w n) i ≡ Some (or_black (at (x +ℤ pos k) (y +ℤ pos row)))
down_get at x y w zero row k i low less e = absurd (omega arith)
down_get at x y w (suc n) zero k i low less e =
    let long = right_length at x y w in
    append_left (cells_right at x y w) (cells_down at x (y +ℤ pos 1) w n) i (omega arith)
    ∙ ap (slice_get (cells_right at x y w)) (first i k e)
    ∙ right_get at x y w k less
    ∙ ap (λ v. Some (or_black (at (x +ℤ pos k) v))) (sym (plus_zero y))
  where
    first : (i k : ℕ) → i ≡ 0 * w + k → i ≡ k
    first i k e = omega arith
down_get at x y w (suc n) (suc row) k i low less e =
    let long = right_length at x y w in
    append_right (cells_right at x y w) (cells_down at x (y +ℤ pos 1) w n) (row * w + k) i (behind (length (cells_right at x y w)) long)
    ∙ down_get at x (y +ℤ pos 1) w n row k (row * w + k) (omega arith) less refl
    ∙ ap (λ v. Some (or_black (at (x +ℤ pos k) v))) (below y)
  where
    behind : (a : ℕ) → a ≡ w → i ≡ a + (row * w + k)
    behind a f = omega arith

    below : (y : ℤ) → y +ℤ pos 1 +ℤ pos row ≡ y +ℤ pos (suc row)
    below y = omega (arith, ints)

-- ---- the pixels of rectangles

rect_get : (at : Lookup) (r : Rect) (x y : ℤ) → IsIn r x y → slice_get (cells_down at r.left r.top (width_of r) (height_of r)) (place_in r x y) ≡ Some (or_black (at x y))
unfolding place_in
rect_get at r x y h =
    let c = cell_of r x y h in
    let below = column_below r x y _ _ _ _ h c in
    down_get at r.left r.top (width_of r) (height_of r) (row_in r y) (column_in r x) _ below.0 below.1 refl
    ∙ ap (λ (z : ℤ). Some (or_black (at z (r.top +ℤ pos (row_in r y))))) (back (column_in r x) r.left x c.column_is)
    ∙ ap (λ (v : ℤ). Some (or_black (at x v))) (back (row_in r y) r.top y c.row_is)
  where
    back : (n : ℕ) (edge z : ℤ) → pos n ≡ z -ℤ edge → edge +ℤ pos n ≡ z
    back n edge z e = omega (arith, ints)

rect_length : (at : Lookup) (r : Rect) → length (cells_down at r.left r.top (width_of r) (height_of r)) ≡ area_of r
unfolding area_of
rect_length at r = down_length at r.left r.top (width_of r) (height_of r)

pub cells_length : (at : Lookup) (rs : List Rect) → length (cells_at at rs) ≡ pixels_of rs
cells_length at [] = refl
cells_length at (r ∷ rs) =
    let first = rect_length at r in
    let rest = cells_length at rs in
    length-append (cells_down at r.left r.top (width_of r) (height_of r)) (cells_at at rs) ∙ (omega arith)

pub place_get : (at : Lookup) (rs : List Rect) (x y : ℤ) (n : ℕ) → place_of rs x y ≡ Some n → slice_get (cells_at at rs) n ≡ Some (or_black (at x y))
place_get at [] x y n e = absurd (none-some n e)
place_get at (r ∷ rs) x y n e =
    let own = cells_down at r.left r.top (width_of r) (height_of r) in
    let long : length own ≡ area_of r = rect_length at r in
    elim (place_parts r rs x y n e) [
      | inl h ↦
          let inside = in_from r x y h.0 in
          let less = place_in_below r x y inside in
          let is = h.1 in
          append_left own (cells_at at rs) n (omega arith) ∙ ap (slice_get own) is ∙ rect_get at r x y inside
      | inr h ↦
          let is = h.1.1.1 in
          append_right own (cells_at at rs) h.1.0 n (omega arith) ∙ place_get at rs x y h.1.0 h.1.1.0
    ]

-- ---- what a region shows

pub seen_length : (rs : List Rect) (kept : Spans) → length (seen rs kept).cells ≡ pixels_of rs
unfolding seen
seen_length rs kept = cells_length (cell_in kept) rs

pub seen_rects : (rs : List Rect) (kept : Spans) → (seen rs kept).rects ≡ rs
unfolding seen
seen_rects rs kept = refl

-- a pixel of the region has the cell that is kept for it
pub seen_cell : (rs : List Rect) (kept : Spans) (x y : ℤ) → IsSeen rs kept → region_has rs x y ≡ true → cell_in (seen rs kept) x y ≡ cell_in kept x y
unfolding seen cell_in
seen_cell rs kept x y is has =
    let found = place_found rs x y has in
    let own = cell_some kept x y is.whole (is.inside x y has) in
    ap (option_and_then (slice_get (cells_at (cell_in kept) rs))) found.1
    ∙ place_get (cell_in kept) rs x y found.0 found.1
    ∙ ap (λ o. Some (or_black o)) own.1 ∙ sym own.1

pub unseen_cell : (rs : List Rect) (kept : Spans) (x y : ℤ) → region_has rs x y ≡ false → cell_in (seen rs kept) x y ≡ None
unseen_cell rs kept x y out = cell_none (seen rs kept) x y (ap (λ l. region_has l x y) (seen_rects rs kept) ∙ out)

-- the cell at a place
pub cell_place : (s : Spans) (x y : ℤ) (n : ℕ) → place_of s.rects x y ≡ Some n → cell_in s x y ≡ slice_get s.cells n
unfolding cell_in
cell_place s x y n e = ap (option_and_then (slice_get s.cells)) e
