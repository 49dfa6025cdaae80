-- Cells that go with their pixels.
use Rattle.std.proofs.Common.{◌≡◌, ℕ, ℤ, pos, ◌+ℤ◌, ◌-ℤ◌, ◌+◌, ◌*◌, Bool, true, false, ◌&&◌, ◌||◌, List, [], ◌∷◌, length, get_or, slice_get, cond, inl, inr, Option, Some, None, refl, sym, ap, ◌∙◌, arith}
use Rattle.std.specs.Prelude.{not, option_and_then, unsigned_abs}
use Rattle.std.specs.Option.{option_map}
use Rattle.std.proofs.lemmas.Bool.{true≢false}
use Rattle.std.proofs.lemmas.Int.{ints}
use Rattle.be_facts.proofs.Truths.{true_or_false}
use Rattle.be_geom.specs.declared.rect.Rect.{Rect}
use Rattle.be_geom.specs.Rects.{moved_rect, rect_has}
use Rattle.be_region.specs.Bands.{AreBands}
use Rattle.be_region.specs.Regions.{IsNotEmpty, region_has}
use Rattle.be_region.proofs.MoveLemmas.{moved_region}
use Rattle.be_span.specs.declared.Cell.{Cell}
use Rattle.be_span.specs.Cells.{unmarked}
use Rattle.be_span.specs.Seen.{IsSeen}
use Rattle.be_span.specs.Spans.{Spans, area_of, cell_in, height_of, is_dirty, laid, black_cell, pixels_of, place_in, width_of}
use Rattle.be_span.proofs.CellLemmas.{cell_none, spans}
use Rattle.be_span.proofs.MarkLemmas.{none_unmarked}

-- ---- a rectangle that is moved

wide_still : (r : Rect) (dx dy : ℤ) → width_of (moved_rect r dx dy) ≡ width_of r
wide_still r dx dy = ap unsigned_abs (still r.left r.right)
  where
    still : (a b : ℤ) → (b +ℤ dx) -ℤ (a +ℤ dx) +ℤ pos 1 ≡ b -ℤ a +ℤ pos 1
    still a b = omega (arith, ints)

high_still : (r : Rect) (dx dy : ℤ) → height_of (moved_rect r dx dy) ≡ height_of r
high_still r dx dy = ap unsigned_abs (still r.top r.bottom)
  where
    still : (a b : ℤ) → (b +ℤ dy) -ℤ (a +ℤ dy) +ℤ pos 1 ≡ b -ℤ a +ℤ pos 1
    still a b = omega (arith, ints)

pub area_still : (r : Rect) (dx dy : ℤ) → area_of (moved_rect r dx dy) ≡ area_of r
unfolding area_of
area_still r dx dy = rw (wide_still r dx dy, high_still r dx dy) refl

pub some_still : (r : Rect) (dx dy : ℤ) → IsNotEmpty r → IsNotEmpty (moved_rect r dx dy)
some_still r dx dy some =
    let across = some.across in
    let down = some.down in
    record { across = omega (arith, ints); down = omega (arith, ints) }

place_back : (r : Rect) (dx dy x y : ℤ) → place_in (moved_rect r dx dy) x y ≡ place_in r (x -ℤ dx) (y -ℤ dy)
unfolding place_in
place_back r dx dy x y =
    ap (λ (z : ℤ). unsigned_abs z * width_of (moved_rect r dx dy) + unsigned_abs (x -ℤ (r.left +ℤ dx))) (back y r.top dy)
    ∙ ap (λ (z : ℤ). unsigned_abs (y -ℤ dy -ℤ r.top) * width_of (moved_rect r dx dy) + unsigned_abs z) (back x r.left dx)
    ∙ ap (λ n. unsigned_abs (y -ℤ dy -ℤ r.top) * n + unsigned_abs (x -ℤ dx -ℤ r.left)) (wide_still r dx dy)
  where
    back : (z edge d : ℤ) → z -ℤ (edge +ℤ d) ≡ z -ℤ d -ℤ edge
    back z edge d = omega (arith, ints)

pub has_back : (r : Rect) (dx dy x y : ℤ) → region_has (moved_rect r dx dy ∷ []) x y ≡ region_has (r ∷ []) (x -ℤ dx) (y -ℤ dy)
has_back r dx dy x y = moved_region (r ∷ []) dx dy x y

alone : (a b : Bool) → (a || false) ≡ (b || false) → a ≡ b
alone true true e = refl
alone true false e = absurd (true≢false e)
alone false true e = absurd (true≢false (sym e))
alone false false e = refl

-- the cell of a pixel is the one that it had before
pub cell_back : (r : Rect) (cells : List Cell) (dx dy x y : ℤ) → cell_in (spans (moved_rect r dx dy ∷ []) cells) x y ≡ cell_in (spans (r ∷ []) cells) (x -ℤ dx) (y -ℤ dy)
unfolding cell_in
cell_back r cells dx dy x y =
    let none : Option ℕ = None in
    let has = alone (rect_has (moved_rect r dx dy) x y) (rect_has r (x -ℤ dx) (y -ℤ dy)) (has_back r dx dy x y) in
    ap (λ b. option_and_then (slice_get cells) (cond b (Some (place_in (moved_rect r dx dy) x y)) none)) has
    ∙ ap (λ n. option_and_then (slice_get cells) (cond (rect_has r (x -ℤ dx) (y -ℤ dy)) (Some n) none)) (place_back r dx dy x y)

-- ---- another region

-- the cells that are kept are right for it, where those of the pixels given up have no mark
pub seen_other : (rs next given : List Rect) (old moved new : Spans) (dx dy : ℤ) → (is : IsSeen rs old) → AreBands next → moved.rects ≡ moved_rect is.frame dx dy ∷ [] → ((x y : ℤ) → cell_in moved x y ≡ cell_in old (x -ℤ dx) (y -ℤ dy)) → new.rects ≡ moved.rects → length new.cells ≡ pixels_of new.rects → ((x y : ℤ) → cell_in new x y ≡ cond (region_has given x y) (option_map unmarked (cell_in moved x y)) (cell_in moved x y)) → ((x y : ℤ) → region_has next x y ≡ true → rect_has (moved_rect is.frame dx dy) x y ≡ true) → ((x y : ℤ) → region_has given x y ≡ (region_has rs (x -ℤ dx) (y -ℤ dy) && not (region_has next x y))) → IsSeen next new
seen_other rs next given old moved new dx dy is bands framed cells same whole cleared fits gone = record {
  bands = bands;
  frame = moved_rect is.frame dx dy;
  framed = same ∙ framed;
  some = some_still is.frame dx dy is.some;
  inside = λ x y has. ap (λ l. region_has l x y) (same ∙ framed) ∙ ap (λ b. b || false) (fits x y has);
  whole = whole;
  outside = λ x y out. elim (true_or_false (region_has given x y)) [
    | inl h ↦ ap is_dirty (cleared x y ∙ ap (λ b. cond b (option_map unmarked (cell_in moved x y)) (cell_in moved x y)) h) ∙ none_unmarked (cell_in moved x y)
    | inr h ↦ ap is_dirty (cleared x y ∙ ap (λ b. cond b (option_map unmarked (cell_in moved x y)) (cell_in moved x y)) h ∙ cells x y) ∙ is.outside (x -ℤ dx) (y -ℤ dy) (not_there (region_has rs (x -ℤ dx) (y -ℤ dy)) (region_has next x y) out (sym (gone x y) ∙ h))
  ];
}
  where
    not_there : (a b : Bool) → b ≡ false → (a && not b) ≡ false → a ≡ false
    not_there true true out none = absurd (true≢false out)
    not_there true false out none = none
    not_there false b out none = refl

-- a pixel of it that was there keeps its cell
pub cell_kept : (rs next given : List Rect) (old moved new : Spans) (dx dy x y : ℤ) → ((x y : ℤ) → cell_in moved x y ≡ cell_in old (x -ℤ dx) (y -ℤ dy)) → ((x y : ℤ) → cell_in new x y ≡ cond (region_has given x y) (option_map unmarked (cell_in moved x y)) (cell_in moved x y)) → ((x y : ℤ) → region_has given x y ≡ (region_has rs (x -ℤ dx) (y -ℤ dy) && not (region_has next x y))) → region_has next x y ≡ true → cell_in new x y ≡ cell_in old (x -ℤ dx) (y -ℤ dy)
cell_kept rs next given old moved new dx dy x y cells cleared gone has =
    cleared x y ∙ ap (λ b. cond b (option_map unmarked (cell_in moved x y)) (cell_in moved x y)) (gone x y ∙ ap (λ b. region_has rs (x -ℤ dx) (y -ℤ dy) && not b) has ∙ none (region_has rs (x -ℤ dx) (y -ℤ dy))) ∙ cells x y
  where
    none : (a : Bool) → (a && not true) ≡ false
    none true = refl
    none false = refl

-- ---- frames

pub one_frame : (a b : Rect) → a ∷ [] ≡ b ∷ [] → a ≡ b
one_frame a b e = ap (λ (l : List Rect). get_or l 0 a) e

-- black cells are kept for a region that has none yet
pub black_seen : (rs : List Rect) (frame : Rect) (kept : Spans) → AreBands rs → IsNotEmpty frame → ((x y : ℤ) → region_has rs x y ≡ true → rect_has frame x y ≡ true) → kept.rects ≡ frame ∷ [] → length kept.cells ≡ pixels_of kept.rects → ((x y : ℤ) → region_has kept.rects x y ≡ true → cell_in kept x y ≡ Some black_cell) → IsSeen rs kept
black_seen rs frame kept bands some holds framed whole black = record {
  bands = bands;
  frame = frame;
  framed = framed;
  some = some;
  inside = λ x y has. ap (λ l. region_has l x y) framed ∙ ap (λ b. b || false) (holds x y has);
  whole = whole;
  outside = λ x y out. elim (true_or_false (region_has kept.rects x y)) [
    | inl h ↦ ap is_dirty (black x y h)
    | inr h ↦ ap is_dirty (cell_none kept x y h)
  ];
}

-- a cell that is there is laid on another
pub laid_here : (o p : Option Cell) (c d : Cell) → o ≡ Some c → p ≡ Some d → laid o p ≡ o
laid_here o p c d e f = ap (λ t. laid t p) e ∙ ap (laid (Some c)) f ∙ sym e
