-- The pixels of one rectangle with their cells.
use Rattle.std.proofs.Common.{◌≡◌, ℕ, ◌+◌, ◌-◌, ◌<◌, ℤ, pos, ◌+ℤ◌, Bool, true, false, ◌||◌, List, [], ◌∷◌, length, get_or, take, slice_get, count_by, inl, inr, ◌≤◌, Option, Some, cond, refl, sym, ap, ◌∙◌, arith}
use Rattle.std.specs.Prelude.{option_and_then}
use Rattle.std.specs.Option.{option_map}
use Rattle.std.proofs.lemmas.Int.{ints}
use Rattle.std.proofs.lemmas.Option.{slice_get-get_or}
use Rattle.be_facts.proofs.Lists.{get_take}
use Rattle.be_facts.proofs.Truths.{true_or_false}
use Rattle.be_geom.specs.declared.rect.Rect.{Rect}
use Rattle.be_geom.specs.Rects.{rect_has}
use Rattle.be_region.specs.Regions.{IsNotEmpty}
use Rattle.be_span.specs.declared.Cell.{Cell}
use Rattle.be_span.specs.Runs.{HasRun}
use Rattle.be_span.specs.Spans.{area_of, black_cell, cell_in, is_dirty, place_in, place_of}
use Rattle.be_span.proofs.CellLemmas.{StandAt, cell_none, spans}
use Rattle.be_span.proofs.GridLemmas.{has_from, in_from, place_in_next}
use Rattle.be_span.proofs.MarkLemmas.{slice_clean}
use Rattle.be_span.proofs.SpanLemmas.{IsRowIn, first_in, inside, row_within}

alone : (b : Bool) → (b || false) ≡ true → b ≡ true
alone true e = refl
alone false e = e

-- a run of pixels of the rectangle is in one of its rows
pub row_of_run : (r : Rect) (x y : ℤ) (n : ℕ) → 0 < n → HasRun (r ∷ []) x y n → IsRowIn r x y n
row_of_run r x y n some run =
    let first = in_from r (x +ℤ pos 0) y (alone (rect_has r (x +ℤ pos 0) y) (run 0 some)) in
    let last = in_from r (x +ℤ pos (n - 1)) y (alone (rect_has r (x +ℤ pos (n - 1)) y) (run (n - 1) (omega arith))) in
    let left = first.left in
    let right = last.right in
    record { left = omega (arith, ints); right = omega (arith, ints); top = first.top; bottom = first.bottom }

-- its cells stand side by side
pub row_stands_alone : (r : Rect) (x y : ℤ) (n : ℕ) → IsRowIn r x y n → StandAt (r ∷ []) (place_in r x y) x y n
row_stands_alone r x y n row k less =
    let there = inside r x y n k row less in
    let none : Option ℕ = place_of [] (x +ℤ pos k) y in
    ap (λ b. cond b (Some (place_in r (x +ℤ pos k) y)) (option_map (λ m. area_of r + m) none)) (has_from r (x +ℤ pos k) y there)
    ∙ ap Some (place_in_next r x y k (first_in r x y n k row less) there)

-- where the cell of one of its pixels stands
in_place : (r : Rect) (cells : List Cell) (x y : ℤ) → rect_has r x y ≡ true → cell_in (spans (r ∷ []) cells) x y ≡ slice_get cells (place_in r x y)
unfolding cell_in
in_place r cells x y has =
    let none : Option ℕ = place_of [] x y in
    ap (λ b. option_and_then (slice_get cells) (cond b (Some (place_in r x y)) (option_map (λ m. area_of r + m) none))) has

place_below : (r : Rect) (x y : ℤ) → IsNotEmpty r → rect_has r x y ≡ true → place_in r x y < area_of r
place_below r x y some has =
    let at = in_from r x y has in
    let left = at.left in
    let right = at.right in
    let row : IsRowIn r x y 1 = record { left = left; right = omega (arith, ints); top = at.top; bottom = at.bottom } in
    let within = row_within r x y 1 some row in
    omega arith

-- each of its pixels has a cell, where there are enough
pub has_cell : (r : Rect) (cells : List Cell) (x y : ℤ) → IsNotEmpty r → area_of r ≤ length cells → rect_has r x y ≡ true → cell_in (spans (r ∷ []) cells) x y ≡ Some (get_or cells (place_in r x y) black_cell)
has_cell r cells x y some room has =
    let below = place_below r x y some has in
    in_place r cells x y has ∙ slice_get-get_or cells (place_in r x y) black_cell (omega arith)

-- where none of its cells is dirty
pub none_dirty : (r : Rect) (cells : List Cell) (x y : ℤ) → IsNotEmpty r → count_by (λ c. c.dirty) (take (area_of r) cells) ≡ 0 → is_dirty (cell_in (spans (r ∷ []) cells) x y) ≡ false
none_dirty r cells x y some clean =
    elim (true_or_false (rect_has r x y)) [
      | inl has ↦
          ap is_dirty (in_place r cells x y has
          ∙ sym (get_take (area_of r) cells (place_in r x y) (place_below r x y some has)))
          ∙ slice_clean (take (area_of r) cells) (place_in r x y) clean
      | inr out ↦ ap is_dirty (cell_none (spans (r ∷ []) cells) x y (ap (λ b. b || false) out))
    ]
