-- Spans that go a way, and some that are newly exposed.
use Rattle.std.proofs.Common.{◌≡◌, ℕ, zero, suc, ◌+◌, ◌<◌, ℤ, pos, ◌+ℤ◌, ◌-ℤ◌, Bool, true, false, ◌||◌, ◌⊎◌, inl, inr, All, List, [], ◌∷◌, ◌++◌, length, get_or, take, slice_get, Option, Some, None, refl, sym, ap, ◌∙◌, subst, arith, add-one}
use Rattle.std.specs.Prelude.{IsSome, option_and_then}
use Rattle.std.specs.List.{list_any}
use Rattle.std.proofs.lemmas.Bool.{true≢false}
use Rattle.std.proofs.lemmas.List.{same_lists}
use Rattle.std.proofs.lemmas.List.Elements.{All-head, All-tail}
use Rattle.std.proofs.lemmas.Option.{get_or_from_slice_get, none-some, same_Some, slice_get-get_or}
use Rattle.be_facts.proofs.Numbers.{minus_zero}
use Rattle.be_facts.proofs.Truths.{true_or_false}
use Rattle.be_geom.specs.declared.rect.Rect.{Rect}
use Rattle.be_region.specs.Bands.{AreBands}
use Rattle.be_region.specs.Regions.{region_has, SamePixels}
use Rattle.be_span.specs.declared.Cell.{Cell}
use Rattle.be_span.specs.Cells.{Lookup}
use Rattle.be_span.specs.Seen.{cells_at, cells_down, cells_right, or_black}
use Rattle.be_span.specs.Spans.{Spans, black_cell, cell_in, height_of, laid, pixels_of, width_of}
use Rattle.be_span.proofs.CellLemmas.{cell_none, cell_some}
use Rattle.be_span.proofs.PlaceLemmas.{pixel_of, place_found, place_has}
use Rattle.be_span.proofs.SeenLemmas.{cell_place, cells_length, place_get}
use Rattle.be_desk.specs.Shifts.{first_of, newest, shifted}

-- ---- the cells that a lookup has

right_same : (p q : Lookup) → ((x y : ℤ) → p x y ≡ q x y) → (x y : ℤ) (n : ℕ) → cells_right p x y n ≡ cells_right q x y n
right_same p q same x y zero = refl
right_same p q same x y (suc n) =
    ap (λ o. or_black o ∷ cells_right p (x +ℤ pos 1) y n) (same x y) ∙ ap (λ l. or_black (q x y) ∷ l) (right_same p q same (x +ℤ pos 1) y n)

down_same : (p q : Lookup) → ((x y : ℤ) → p x y ≡ q x y) → (x y : ℤ) (w n : ℕ) → cells_down p x y w n ≡ cells_down q x y w n
down_same p q same x y w zero = refl
down_same p q same x y w (suc n) =
    ap (λ l. l ++ cells_down p x (y +ℤ pos 1) w n) (right_same p q same x y w) ∙ ap (λ l. cells_right q x y w ++ l) (down_same p q same x (y +ℤ pos 1) w n)

-- two that have the same
pub cells_same : (p q : Lookup) (rs : List Rect) → ((x y : ℤ) → p x y ≡ q x y) → cells_at p rs ≡ cells_at q rs
cells_same p q [] same = refl
cells_same p q (r ∷ rs) same =
    ap (λ l. l ++ cells_at p rs) (down_same p q same r.left r.top (width_of r) (height_of r)) ∙ ap (λ l. cells_down q r.left r.top (width_of r) (height_of r) ++ l) (cells_same p q rs same)

-- spans whose pixels have those cells
cells_are : (s : Spans) (at : Lookup) → AreBands s.rects → length s.cells ≡ pixels_of s.rects → ((x y : ℤ) → region_has s.rects x y ≡ true → cell_in s x y ≡ at x y) → s.cells ≡ cells_at at s.rects
cells_are s at bands whole same =
    same_lists s.cells (cells_at at s.rects) (whole ∙ sym (cells_length at s.rects)) each
  where
    each : (k : ℕ) (d : Cell) → k < length s.cells → get_or s.cells k d ≡ get_or (cells_at at s.rects) k d
    each k d less =
        let pixel = pixel_of s.rects k bands.none_empty bands.in_order (omega arith) in
        let x = pixel.0 in
        let y = pixel.1.0 in
        let there = slice_get-get_or s.cells k black_cell less in
        let is = sym (same x y (place_has s.rects x y k pixel.1.1)) ∙ cell_place s x y k pixel.1.1 ∙ there in
        let other = place_get at s.rects x y k pixel.1.1 ∙ ap (λ o. Some (or_black o)) is in
        get_or_from_slice_get s.cells k (get_or s.cells k black_cell) d there ∙ sym (get_or_from_slice_get (cells_at at s.rects) k (get_or s.cells k black_cell) d other)

-- a pixel's
looked_up : (at : Lookup) (rs : List Rect) (x y : ℤ) (c : Cell) → region_has rs x y ≡ true → at x y ≡ Some c → cell_in (record { rects = rs; cells = cells_at at rs }) x y ≡ Some c
unfolding cell_in
looked_up at rs x y c has is =
    let found = place_found rs x y has in
    ap (option_and_then (slice_get (cells_at at rs))) found.1 ∙ place_get at rs x y found.0 found.1 ∙ ap (λ o. Some (or_black o)) is

-- ---- the newest cell

has_pixel : ℤ → ℤ → Spans → Bool
has_pixel x y s = region_has s.rects x y

either_some : (own o : Option Cell) → IsSome o → IsSome (first_of own o)
either_some (Some c) o some = refl
either_some None o some = some

-- one that is there stays there
pub newest_keeps : (parts : List Spans) (x y : ℤ) (o : Option Cell) → IsSome o → IsSome (newest parts x y o)
newest_keeps [] x y o some = some
newest_keeps (s ∷ parts) x y o some = newest_keeps parts x y (first_of (cell_in s x y) o) (either_some (cell_in s x y) o some)

base_step : (parts : List Spans) (x y : ℤ) (own o : Option Cell) → (IsSome (newest parts x y None) → newest parts x y o ≡ newest parts x y None) → IsSome (newest parts x y (first_of own None)) → newest parts x y (first_of own o) ≡ newest parts x y (first_of own None)
base_step parts x y (Some c) o rest some = refl
base_step parts x y None o rest some = rest some

-- where one is, what was there doesn't count
pub newest_alone : (parts : List Spans) (x y : ℤ) (o : Option Cell) → IsSome (newest parts x y None) → newest parts x y o ≡ newest parts x y None
newest_alone [] x y o some = absurd (true≢false (sym some))
newest_alone (s ∷ parts) x y o some = base_step parts x y (cell_in s x y) o (newest_alone parts x y o) some

-- one more
newest_more : (parts : List Spans) (k : ℕ) (part : Spans) (x y : ℤ) (o : Option Cell) → slice_get parts k ≡ Some part → newest (take (suc k) parts) x y o ≡ first_of (cell_in part x y) (newest (take k parts) x y o)
newest_more [] k part x y o e = absurd (none-some part e)
newest_more (s ∷ parts) zero part x y o e = ap (λ (t : Spans). first_of (cell_in t x y) o) (same_Some s part e)
newest_more (s ∷ parts) (suc k) part x y o e = newest_more parts k part x y (first_of (cell_in s x y) o) e

-- where no buffer has the pixel
pub newest_none : (parts : List Spans) (x y : ℤ) (o : Option Cell) → list_any (λ s. region_has s.rects x y) parts ≡ false → newest parts x y o ≡ o
newest_none [] x y o none = refl
newest_none (s ∷ parts) x y o none =
    let parts_none = neither (region_has s.rects x y) (list_any (λ t. region_has t.rects x y) parts) none in
    ap (λ own. newest parts x y (first_of own o)) (cell_none s x y parts_none.0) ∙ newest_none parts x y o parts_none.1
  where
    neither : (a b : Bool) → (a || b) ≡ false → (a ≡ false) × (b ≡ false)
    neither true b e = absurd (true≢false e)
    neither false b e = (refl, e)

-- where each that has the pixel has the same cell there
pub newest_is : (parts : List Spans) (x y : ℤ) (c : Cell) (o : Option Cell) → All (λ (s : Spans). region_has s.rects x y ≡ true → cell_in s x y ≡ Some c) parts → (o ≡ Some c) ⊎ (list_any (λ s. region_has s.rects x y) parts ≡ true) → newest parts x y o ≡ Some c
newest_is [] x y c o own (inl e) = e
newest_is [] x y c o own (inr e) = absurd (true≢false (sym e))
newest_is (s ∷ parts) x y c o own found =
    let its = All-head (λ (t : Spans). region_has t.rects x y ≡ true → cell_in t x y ≡ Some c) s parts own in
    let rest = All-tail (λ (t : Spans). region_has t.rects x y ≡ true → cell_in t x y ≡ Some c) s parts own in
    elim (true_or_false (region_has s.rects x y)) [
      | inl h ↦ newest_is parts x y c (first_of (cell_in s x y) o) rest (inl (ap (λ own. first_of own o) (its h)))
      | inr h ↦ ap (λ own. newest parts x y (first_of own o)) (cell_none s x y h) ∙ newest_is parts x y c o rest (beside h found)
    ]
  where
    beside : region_has s.rects x y ≡ false → (o ≡ Some c) ⊎ ((region_has s.rects x y || list_any (λ t. region_has t.rects x y) parts) ≡ true) → (o ≡ Some c) ⊎ (list_any (λ t. region_has t.rects x y) parts ≡ true)
    beside h (inl e) = inl e
    beside h (inr e) = inr (sym (ap (λ b. b || list_any (λ t. region_has t.rects x y) parts) h) ∙ e)

-- each of some has a cell for each of its pixels
abbrev pub AreWhole : List Spans → Type 0
AreWhole parts = All (λ (s : Spans). length s.cells ≡ pixels_of s.rects) parts

-- where some buffer has the pixel
pub newest_some : (parts : List Spans) (x y : ℤ) (o : Option Cell) → AreWhole parts → list_any (λ s. region_has s.rects x y) parts ≡ true → IsSome (newest parts x y o)
newest_some [] x y o whole found = absurd (true≢false (sym found))
newest_some (s ∷ parts) x y o whole found =
    elim (true_or_false (region_has s.rects x y)) [
      | inl h ↦
          let c = cell_some s x y (All-head (λ (t : Spans). length t.cells ≡ pixels_of t.rects) s parts whole) h in
          newest_keeps parts x y (first_of (cell_in s x y) o) (subst (λ own. IsSome (first_of own o)) (sym c.1) refl)
      | inr h ↦ newest_some parts x y (first_of (cell_in s x y) o) (All-tail (λ (t : Spans). length t.cells ≡ pixels_of t.rects) s parts whole) (sym (ap (λ b. b || list_any (λ t. region_has t.rects x y) parts) h) ∙ found)
    ]

-- a cell laid on one that is there
pub laid_first : (own now : Option Cell) → IsSome now → laid own now ≡ first_of own now
laid_first (Some c) (Some d) some = refl
laid_first (Some c) None some = absurd (true≢false (sym some))
laid_first None now some = refl

-- one part more is laid
pub part_more : (parts : List Spans) (k : ℕ) (part : Spans) (x y : ℤ) (old now new : Option Cell) → slice_get parts k ≡ Some part → IsSome old → now ≡ newest (take k parts) x y old → new ≡ laid (cell_in part (x -ℤ pos 0) (y -ℤ pos 0)) now → new ≡ newest (take (k + 1) parts) x y old
part_more parts k part x y old now new got some so_far e =
    let there : IsSome now = subst IsSome (sym so_far) (newest_keeps (take k parts) x y old some) in
    e ∙ ap (λ z. laid (cell_in part z (y -ℤ pos 0)) now) (minus_zero x) ∙ ap (λ w. laid (cell_in part x w) now) (minus_zero y)
    ∙ laid_first (cell_in part x y) now there ∙ ap (first_of (cell_in part x y)) so_far
    ∙ sym (rw add-one (newest_more parts k part x y old got))

-- ---- once they are shifted

pub has_cell : (s : Spans) (x y : ℤ) → length s.cells ≡ pixels_of s.rects → region_has s.rects x y ≡ true → IsSome (cell_in s x y)
has_cell s x y whole has = let c = cell_some s x y whole has in subst IsSome (sym c.1) refl

-- the pixels that were there have their cells, and the others the newest
pub shifted_is : (dx dy : ℤ) (from next : List Rect) (fresh : List Spans) (old moved new : Spans) → AreBands new.rects → length new.cells ≡ pixels_of new.rects → SamePixels from old.rects → new.rects ≡ next → ((x y : ℤ) → region_has next x y ≡ true → region_has old.rects (x -ℤ dx) (y -ℤ dy) ≡ true → cell_in moved x y ≡ cell_in old (x -ℤ dx) (y -ℤ dy)) → ((x y : ℤ) → region_has next x y ≡ true → cell_in new x y ≡ newest fresh x y (cell_in moved x y)) → ((x y : ℤ) → region_has next x y ≡ true → region_has from (x -ℤ dx) (y -ℤ dy) ≡ false → IsSome (newest fresh x y None)) → new ≡ shifted dx dy next fresh old
shifted_is dx dy from next fresh old moved new bands whole its is kept over covered =
    ap (λ (l : List Cell). let s : Spans = record { rects = new.rects; cells = l } in s) (cells_are new at bands whole each)
    ∙ ap (λ (rs : List Rect). shifted dx dy rs fresh old) is
  where
    at : Lookup
    at x y = newest fresh x y (cell_in old (x -ℤ dx) (y -ℤ dy))

    each : (x y : ℤ) → region_has new.rects x y ≡ true → cell_in new x y ≡ at x y
    each x y has =
        let here : region_has next x y ≡ true = ap (λ l. region_has l x y) (sym is) ∙ has in
        elim (true_or_false (region_has old.rects (x -ℤ dx) (y -ℤ dy))) [
          | inl was ↦ over x y here ∙ ap (newest fresh x y) (kept x y here was)
          | inr was ↦
              let some = covered x y here (its (x -ℤ dx) (y -ℤ dy) ∙ was) in
              over x y here ∙ newest_alone fresh x y (cell_in moved x y) some ∙ sym (newest_alone fresh x y (cell_in old (x -ℤ dx) (y -ℤ dy)) some)
        ]

-- a pixel that has a cell then
pub shifted_cell : (dx dy : ℤ) (next : List Rect) (fresh : List Spans) (old : Spans) (x y : ℤ) (c : Cell) → region_has next x y ≡ true → newest fresh x y (cell_in old (x -ℤ dx) (y -ℤ dy)) ≡ Some c → cell_in (shifted dx dy next fresh old) x y ≡ Some c
shifted_cell dx dy next fresh old x y c has is = looked_up (λ z w. newest fresh z w (cell_in old (z -ℤ dx) (w -ℤ dy))) next x y c has is

-- spans that show the same become the same
pub shifted_alike : (dx dy : ℤ) (next : List Rect) (fresh : List Spans) (old other : Spans) → ((x y : ℤ) → cell_in other x y ≡ cell_in old x y) → shifted dx dy next fresh other ≡ shifted dx dy next fresh old
shifted_alike dx dy next fresh old other same =
    ap (λ (l : List Cell). let s : Spans = record { rects = next; cells = l } in s) (cells_same (λ x y. newest fresh x y (cell_in other (x -ℤ dx) (y -ℤ dy))) (λ x y. newest fresh x y (cell_in old (x -ℤ dx) (y -ℤ dy))) next (λ x y. ap (newest fresh x y) (same (x -ℤ dx) (y -ℤ dy))))
