-- One colour all over.
use Rattle.std.proofs.Common.{◌≡◌, ℤ, true, Option, Some, None, cond, inl, inr, ◌||◌, false, pos, subst, sym, ap, ◌∙◌, arith}
use Rattle.std.proofs.lemmas.Int.{ints}
use Rattle.be_facts.proofs.Truths.{true_or_false}
use Rattle.be_geom.specs.Rects.{rect_has}
use Rattle.be_region.specs.Regions.{IsNotEmpty, region_has}
use Rattle.be_region.specs.Bands.{AreBands}
use Rattle.be_span.specs.declared.Cell.{Cell}
use Rattle.be_span.specs.Seen.{IsSeen}
use Rattle.be_span.specs.Spans.{clean_cell, is_dirty, cell_in}
use Rattle.be_span.proofs.BufferLemmas.{all_cells}
use Rattle.be_span.proofs.CellLemmas.{cell_none}
use Rattle.be_span.proofs.FrameLemmas.{frame_holds, frame_some}
use Rattle.be_span.proofs.SeenLemmas.{seen_cell, seen_rects, unseen_cell}
use Rattle.be_span.proofs.buffer.SpanBuf.filled.Goals as goal

pub filled-requires : goal.filled-requires
filled-requires c =
    let pixel : IsNotEmpty (record { left = pos 0; top = pos 0; right = pos 0; bottom = pos 0 }) = record { across = omega (arith, ints); down = omega (arith, ints) } in
    subst IsNotEmpty (sym c.unwrap_or-frame.ensures) (frame_some c.args.region c.frame.result _ c.frame.ensures.some pixel)

-- the pixels that cells are kept for
frame_has : (c : goal.In_ok-grid) (x y : ℤ) → region_has c.args.region x y ≡ true → region_has c.in_ok-grid.grid.rects x y ≡ true
frame_has c x y has =
    let there = frame_holds c.args.region c.frame.result _ c.frame.ensures.none c.frame.ensures.some x y has in
    ap (λ l. region_has l x y) c.in_ok-grid.ensures.frame ∙ ap (λ f. rect_has f x y || false) c.unwrap_or-frame.ensures ∙ ap (λ b. b || false) there

-- none of them is dirty
is_clean : (c : goal.In_ok-grid) (x y : ℤ) → is_dirty (cell_in c.in_ok-grid.grid x y) ≡ false
is_clean c x y =
    elim (true_or_false (region_has c.in_ok-grid.grid.rects x y)) [
      | inl h ↦ ap is_dirty (c.in_ok-grid.ensures.cells x y h)
      | inr h ↦ ap is_dirty (cell_none c.in_ok-grid.grid x y h)
    ]

kept : (c : goal.In_ok-grid) → IsSeen c.args.region c.in_ok-grid.grid
kept c = record {
  bands = subst AreBands c.region.view_is c.region.invariant;
  frame = c.unwrap_or-frame.result;
  framed = c.in_ok-grid.ensures.frame;
  some = filled-requires-of c;
  inside = frame_has c;
  whole = c.in_ok-grid.ensures.whole;
  outside = λ x y out. is_clean c x y;
}
  where
    filled-requires-of : (c : goal.In_ok-grid) → IsNotEmpty c.unwrap_or-frame.result
    filled-requires-of c =
        let pixel : IsNotEmpty (record { left = pos 0; top = pos 0; right = pos 0; bottom = pos 0 }) = record { across = omega (arith, ints); down = omega (arith, ints) } in
        subst IsNotEmpty (sym c.unwrap_or-frame.ensures) (frame_some c.args.region c.frame.result _ c.frame.ensures.some pixel)

pub invariant_of-result : goal.invariant_of-result
invariant_of-result c = kept c

pub returns-clause-region : goal.returns-clause-region
returns-clause-region c = seen_rects c.args.region c.in_ok-grid.grid

pub returns-clause-filled : goal.returns-clause-filled
returns-clause-filled c x y =
    let none : Option Cell = None in
    elim (true_or_false (region_has c.args.region x y)) [
      | inl h ↦ seen_cell c.args.region c.in_ok-grid.grid x y (kept c) h ∙ c.in_ok-grid.ensures.cells x y (frame_has c x y h) ∙ sym (ap (λ b. cond b (Some (clean_cell c.args.rgb)) none) h)
      | inr h ↦ unseen_cell c.args.region c.in_ok-grid.grid x y h ∙ sym (ap (λ b. cond b (Some (clean_cell c.args.rgb)) none) h)
    ]

pub returns-clause-clean : goal.returns-clause-clean
returns-clause-clean c = all_cells c.args.region c.in_ok-grid.grid (clean_cell c.args.rgb) (kept c) (λ x y h. c.in_ok-grid.ensures.cells x y (frame_has c x y h))
