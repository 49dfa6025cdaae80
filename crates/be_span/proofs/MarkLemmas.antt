-- Which cells are dirty, and how many.
use Rattle.std.proofs.Common.{◌≡◌, ℕ, zero, suc, ◌<◌, ℤ, pos, ◌+ℤ◌, ◌↔◌, IsTrue, eqb, Bool, true, false, cond, List, [], ◌∷◌, length, map, slice_get, get_or, count_by, Option, Some, None, refl, sym, ap, ◌∙◌, arith}
use Rattle.std.specs.Prelude.{option_and_then}
use Rattle.std.proofs.lemmas.List.Sums.{sum_by-cons}
use Rattle.std.specs.Option.{option_map}
use Rattle.std.proofs.lemmas.Option.{slice_get-map, slice_get-get_or}
use Rattle.std.proofs.lemmas.Bool.{eqb-true, eq-eqb}
use Rattle.be_geom.specs.declared.rect.Rect.{Rect}
use Rattle.be_color.specs.declared.colors.Rgb.{Rgb}
use Rattle.be_region.specs.Bands.{AreBands}
use Rattle.be_span.specs.declared.Cell.{Cell}
use Rattle.be_span.specs.Cells.{unmarked}
use Rattle.be_span.specs.Slices.{recolored}
use Rattle.be_span.specs.Spans.{Spans, pixels_of, place_of, cell_in, clean_cell, is_dirty}
use Rattle.be_span.proofs.PlaceLemmas.{pixel_of}
use Rattle.be_span.proofs.CellLemmas.{spans}

abbrev mark : Bool → ℕ
mark b = cond b 1 0

abbrev mark_of : Cell → ℕ
mark_of c = mark c.dirty

no_mark : (b : Bool) → mark b ≡ 0 → b ≡ false
no_mark true e = absurd (omega arith)
no_mark false e = refl

-- where none is dirty, no cell is
pub slice_clean : (cells : List Cell) (n : ℕ) → count_by (λ c. c.dirty) cells ≡ 0 → is_dirty (slice_get cells n) ≡ false
slice_clean [] n e = refl
slice_clean (c ∷ cells) zero e = no_mark c.dirty (let sum = sum_by-cons mark_of c cells in omega arith)
slice_clean (c ∷ cells) (suc n) e = slice_clean cells n (let sum = sum_by-cons mark_of c cells in omega arith)

-- a cell of which it is known that it isn't dirty, with another colour
pub recolored_clean : (rgb : Rgb) (cells : List Cell) (n : ℕ) → count_by (λ c. c.dirty) cells ≡ 0 → n < length cells → option_map (recolored rgb) (slice_get cells n) ≡ Some (clean_cell rgb)
recolored_clean rgb [] n e less = absurd (omega arith)
recolored_clean rgb (c ∷ cells) zero e less =
    ap (λ b. let d : Cell = record { rgb = rgb; dirty = b } in Some d) (no_mark c.dirty (let sum = sum_by-cons mark_of c cells in omega arith))
recolored_clean rgb (c ∷ cells) (suc n) e less =
    recolored_clean rgb cells n (let sum = sum_by-cons mark_of c cells in omega arith) (omega arith)

-- and one of a list in which it is as it was
pub filled_clean : (rgb : Rgb) (old new : List Cell) (n : ℕ) (d : Cell) → count_by (λ c. c.dirty) old ≡ 0 → n < length new → slice_get new n ≡ slice_get old n → clean_cell rgb ≡ recolored rgb (get_or new n d)
filled_clean rgb old new n d clean less same =
    ap (λ b. let c : Cell = record { rgb = rgb; dirty = b } in c) (sym (ap is_dirty (sym (slice_get-get_or new n d less) ∙ same) ∙ slice_clean old n clean))

-- and where no cell is, none is
pub all_clean : (cells : List Cell) → ((k : ℕ) → k < length cells → is_dirty (slice_get cells k) ≡ false) → count_by (λ c. c.dirty) cells ≡ 0
all_clean [] h = refl
all_clean (c ∷ cells) h =
    let first : mark_of c ≡ 0 = ap mark (h 0 (omega arith)) in
    let rest = all_clean cells (λ k less. h (suc k) (omega arith)) in
    let sum = sum_by-cons mark_of c cells in
    omega arith

pub pixel_clean : (s : Spans) (x y : ℤ) → count_by (λ c. c.dirty) s.cells ≡ 0 → is_dirty (cell_in s x y) ≡ false
unfolding cell_in
pixel_clean s x y e = at_place (place_of s.rects x y)
  where
    at_place : (o : Option ℕ) → is_dirty (option_and_then (slice_get s.cells) o) ≡ false
    at_place None = refl
    at_place (Some n) = slice_clean s.cells n e

-- some of the cells of pixels in a row
pub row_clean : (s : Spans) (row : List Cell) (x y : ℤ) → ((k : ℕ) → k < length row → cell_in s (x +ℤ pos k) y ≡ slice_get row k) → count_by (λ c. c.dirty) s.cells ≡ 0 → count_by (λ c. c.dirty) row ≡ 0
row_clean s row x y here e =
    all_clean row (λ k less. ap is_dirty (sym (here k less)) ∙ pixel_clean s (x +ℤ pos k) y e)

-- where no pixel is dirty, no cell is: each is some pixel's
pub clean_count : (s : Spans) → AreBands s.rects → length s.cells ≡ pixels_of s.rects → ((x y : ℤ) → is_dirty (cell_in s x y) ≡ false) → count_by (λ c. c.dirty) s.cells ≡ 0
unfolding cell_in
clean_count s bands whole h =
    all_clean s.cells (λ k less. at_pixel k (pixel_of s.rects k bands.none_empty bands.in_order (omega arith)))
  where
    at_pixel : (k : ℕ) → (x : ℤ) × ((y : ℤ) × (place_of s.rects x y ≡ Some k)) → is_dirty (slice_get s.cells k) ≡ false
    at_pixel k found =
        ap (λ o. is_dirty (option_and_then (slice_get s.cells) o)) (sym found.1.1) ∙ h found.0 found.1.0

-- the count that is kept tells it
pub clean_test : (dirty : ℕ) (s : Spans) → AreBands s.rects → length s.cells ≡ pixels_of s.rects → dirty ≡ count_by (λ c. c.dirty) s.cells → IsTrue (eqb dirty 0) ↔ ((x y : ℤ) → is_dirty (cell_in s x y) ≡ false)
clean_test dirty s bands whole counted =
    (λ none x y. pixel_clean s x y (sym counted ∙ eqb-true dirty 0 none), λ h. eq-eqb dirty 0 (counted ∙ clean_count s bands whole h))

-- ---- marks taken away

clean_same : (o : Option Cell) → is_dirty o ≡ false → o ≡ option_map unmarked o
clean_same None e = refl
clean_same (Some c) e = ap (λ b. let d : Cell = record { rgb = c.rgb; dirty = b } in Some d) e

pub already_clean : (s : Spans) (x y : ℤ) → count_by (λ c. c.dirty) s.cells ≡ 0 → cell_in s x y ≡ option_map unmarked (cell_in s x y)
already_clean s x y e = clean_same (cell_in s x y) (pixel_clean s x y e)

pub cell_unmarked : (rs : List Rect) (old new : List Cell) (x y : ℤ) → new ≡ map unmarked old → cell_in (spans rs new) x y ≡ option_map unmarked (cell_in (spans rs old) x y)
unfolding cell_in
cell_unmarked rs old new x y e = ap (λ l. option_and_then (slice_get l) (place_of rs x y)) e ∙ at_place (place_of rs x y)
  where
    at_place : (o : Option ℕ) → option_and_then (slice_get (map unmarked old)) o ≡ option_map unmarked (option_and_then (slice_get old) o)
    at_place None = refl
    at_place (Some n) = slice_get-map unmarked old n

pub none_marked : (cells : List Cell) → count_by (λ c. c.dirty) (map unmarked cells) ≡ 0
none_marked cells = all_clean (map unmarked cells) (λ k less. ap is_dirty (slice_get-map unmarked cells k) ∙ at_cell (slice_get cells k))
  where
    at_cell : (o : Option Cell) → is_dirty (option_map unmarked o) ≡ false
    at_cell None = refl
    at_cell (Some c) = refl

pub none_unmarked : (o : Option Cell) → is_dirty (option_map unmarked o) ≡ false
none_unmarked None = refl
none_unmarked (Some c) = refl

pub clean_count_test : (dirty : ℕ) (s : Spans) → dirty ≡ count_by (λ c. c.dirty) s.cells → IsTrue (eqb dirty 0) ↔ (count_by (λ c. c.dirty) s.cells ≡ 0)
clean_count_test dirty s e = (λ none. sym e ∙ eqb-true dirty 0 none, λ h. eq-eqb dirty 0 (e ∙ h))
