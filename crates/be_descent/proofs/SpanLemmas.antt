-- The spans of a buffer, whose rectangles are those of its region.
use Rattle.std.specs.Option.{option_map}
use Rattle.std.proofs.Common.{slice_get, ◌≡◌, ℕ, ◌-◌, ℤ, pos, Bool, true, false, ◌&&◌}
use Rattle.std.proofs.Common.{List, get_or, Option, Some, None, if◌then◌else◌, arith}
use Rattle.std.proofs.Common.{refl, sym, ap, ◌∙◌}
use Rattle.std.proofs.lemmas.Int.{ints}
use Rattle.std.proofs.lemmas.Option.{get_or_from_slice_get}
use Rattle.be_facts.proofs.Numbers.{minus_zero}
use Rattle.be_geom.specs.declared.rect.Rect.{Rect}
use Rattle.be_geom.specs.Rects.{rect_has}
use Rattle.be_region.specs.Bands.{AreBands}
use Rattle.be_region.specs.Regions.{region_has}
use Rattle.be_span.specs.declared.Cell.{Cell}
use Rattle.be_span.specs.Runs.{IsSpanOf, IsInside}
use Rattle.be_span.specs.Spans.{SpanAt, Spans, cell_in}
use Rattle.be_span.proofs.CellLemmas.{cell_none}
use Rattle.be_span.proofs.SpanLemmas.{span_some}
use Rattle.be_descent.specs.declared.walk.Found.{Found}
use Rattle.be_descent.specs.declared.way.Way.{Way}
use Rattle.be_span.specs.Painting.{Rule, IsPainted}
use Rattle.be_descent.specs.Places.{has_moved, lies_at, IsNext}
use Rattle.be_descent.proofs.CutLemmas.{inside_of}

-- a place that is where it is given
abbrev pub here : Way
here = record { right = pos 0; down = pos 0 }

pub has_here : (r : Rect) (x y : ℤ) → has_moved r here x y ≡ rect_has r x y
has_here r x y = rw (minus_zero x, minus_zero y) refl

pub lies_here : (rs : List Rect) (x y : ℤ) → lies_at rs here x y ≡ region_has rs x y
lies_here rs x y = rw (minus_zero x, minus_zero y) refl

-- the rectangle at that place has the whole part
pub part_inside : (rs : List Rect) (from : ℕ) (area : Rect) (found : Found) (span : SpanAt)
    → AreBands rs → IsNext rs from here area found → IsSpanOf rs span
    → slice_get rs (found.after - 1) ≡ Some span.rect → IsInside found.part span.rect
part_inside rs from area found span bands next of there =
    let d = span.rect in
    let some = span_some rs span bands of in
    inside_of found.part d d next.some
    (λ x y e. sym (ap (λ r. rect_has r x y)
    (get_or_from_slice_get rs (found.after - 1) d d there))
    ∙ sym (has_here (get_or rs (found.after - 1) d) x y) ∙ next.one d x y e) record {
      left = omega (arith, ints);
      across = some.across;
      right = omega (arith, ints);
      top = omega (arith, ints);
      down = some.down;
      bottom = omega (arith, ints);
    }

-- ---- pixels that the buffer hasn't

without : (f : Cell → Cell) (a b t : Bool) (old new : Option Cell) → (b ≡ false → old ≡ None)
    → new ≡ (if a && (b && t) then option_map f old else old)
    → new ≡ (if a && t then option_map f old else old)
without f true true t old new none e = e
without f true false true old new none e = e ∙ none refl ∙ sym (ap (option_map f) (none refl))
without f true false false old new none e = e
without f false b t old new none e = e

pub on_region : (rule : Rule) (area : Rect) (at : ℤ → ℤ → Bool) (old new : Spans)
    → IsPainted rule (λ x y. rect_has area x y && (lies_at old.rects here x y && at x y)) old new
    → IsPainted rule (λ x y. rect_has area x y && at x y) old new
on_region rule area at old new done = record {
  region = done.region;
  cells = λ x y. without (rule x y) (rect_has area x y) (lies_at old.rects here x y) (at x y)
      (cell_in old x y) (cell_in new x y)
      (λ e. cell_none old x y (sym (lies_here old.rects x y) ∙ e)) (done.cells x y);
}
