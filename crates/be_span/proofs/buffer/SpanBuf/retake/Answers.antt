-- Cells that stay in place, or are laid in room that was taken before.
use Rattle.std.proofs.Common.{◌≡◌, ℤ, to_z, of_z, w32, ◌-ℤ◌, true, ◌&&◌, List, [], ◌∷◌, sym, ap, ◌∙◌}
use Rattle.std.specs.Prelude.{not}
use Rattle.std.proofs.lemmas.Bool.{and_parts}
use Rattle.std.proofs.lemmas.Int.{to_z-of_z}
use Rattle.be_geom.specs.declared.rect.Rect.{Rect}
use Rattle.be_geom.specs.Rects.{moved_rect, rect_has}
use Rattle.be_region.specs.Regions.{region_has}
use Rattle.be_span.specs.Spans.{Spans, black_cell, cell_in}
use Rattle.be_span.proofs.BufferLemmas.{cell_is, rects_are, whole_is}
use Rattle.be_span.proofs.LaidLemmas.{own_cell}
use Rattle.be_span.proofs.SeenLemmas.{seen_cell, seen_rects}
use Rattle.be_span.proofs.ShiftLemmas.{black_seen, cell_kept, has_back, laid_here, one_frame, seen_other}
use Rattle.be_span.proofs.buffer.SpanBuf.retake.Goals as goal

-- ---- where there is room

pub offset-requires : goal.offset-requires
offset-requires c old e =
    c.in-Some.ensures.goes ∙ ap (λ (r : Rect). moved_rect r (to_z w32 (of_z w32 c.args.dx)) (to_z w32 (of_z w32 c.args.dy))) (one_frame c.frame.result old (sym c.frame.ensures.frame ∙ e))

pub unmark-requires-clause-inside : goal.unmark-requires-clause-inside
unmark-requires-clause-inside c x y has =
    let gone = c.requires x y ∙ ap (λ l. region_has l (x -ℤ c.args.dx) (y -ℤ c.args.dy) && not (region_has c.args.next x y)) (rects_are c.self.inside.region c.self.inside.grid c.args.self.now c.self.view_is) in
    let was = (and_parts (region_has c.self.inside.region (x -ℤ c.args.dx) (y -ℤ c.args.dy)) (not (region_has c.args.next x y)) (sym gone ∙ has)).0 in
    let goes = simp (to_z-of_z, c.ranges.dx, c.ranges.dy) at c.in-Some.ensures.goes in
    ap (λ l. region_has l x y) (c.offset.ensures.frame ∙ ap (λ (r : Rect). r ∷ []) goes)
    ∙ has_back c.frame.result c.args.dx c.args.dy x y
    ∙ ap (λ l. region_has l (x -ℤ c.args.dx) (y -ℤ c.args.dy)) (sym c.frame.ensures.frame) ∙ c.self.invariant.inside (x -ℤ c.args.dx) (y -ℤ c.args.dy) was

pub invariant_of-self : goal.invariant_of-self
invariant_of-self c =
    let gone = λ (x y : ℤ). c.requires x y ∙ ap (λ l. region_has l (x -ℤ c.args.dx) (y -ℤ c.args.dy) && not (region_has c.args.next x y)) (rects_are c.self.inside.region c.self.inside.grid c.args.self.now c.self.view_is) ∙ ap (λ (l : List Rect). region_has c.self.inside.region (x -ℤ c.args.dx) (y -ℤ c.args.dy) && not (region_has l x y)) (sym c.next.view_is) in
    let cells = simp (to_z-of_z, c.ranges.dx, c.ranges.dy) at c.offset.ensures.cells in
    let goes = simp (to_z-of_z, c.ranges.dx, c.ranges.dy) at c.in-Some.ensures.goes in
    let frame = one_frame c.frame.result c.self.invariant.frame (sym c.frame.ensures.frame ∙ c.self.invariant.framed) in
    let there = goes ∙ ap (λ (r : Rect). moved_rect r c.args.dx c.args.dy) frame in
    let fits = λ (x y : ℤ) (has : region_has c.next.inside.region x y ≡ true). ap (λ (r : Rect). rect_has r x y) (sym there) ∙ c.in-Some.ensures.round x y (c.next.invariant.holds x y has) in
    seen_other c.self.inside.region c.next.inside.region c.args.given.now c.self.inside.grid c.offset.new.self c.unmark.new.grid c.args.dx c.args.dy c.self.invariant c.next.invariant.bands (c.offset.ensures.frame ∙ ap (λ (r : Rect). r ∷ []) there) cells c.unmark.ensures.frame c.unmark.ensures.whole c.unmark.ensures.cells fits gone

pub returns-in-Some-clause-region : goal.returns-in-Some-clause-region
returns-in-Some-clause-region c = seen_rects c.next.inside.region c.unmark.new.grid ∙ c.next.view_is

pub returns-in-Some-clause-cells : goal.returns-in-Some-clause-cells
returns-in-Some-clause-cells c x y has was =
    let gone = λ (x y : ℤ). c.requires x y ∙ ap (λ l. region_has l (x -ℤ c.args.dx) (y -ℤ c.args.dy) && not (region_has c.args.next x y)) (rects_are c.self.inside.region c.self.inside.grid c.args.self.now c.self.view_is) ∙ ap (λ (l : List Rect). region_has c.self.inside.region (x -ℤ c.args.dx) (y -ℤ c.args.dy) && not (region_has l x y)) (sym c.next.view_is) in
    let cells = simp (to_z-of_z, c.ranges.dx, c.ranges.dy) at c.offset.ensures.cells in
    let own = ap (λ l. region_has l x y) c.next.view_is ∙ has in
    seen_cell c.next.inside.region c.unmark.new.grid x y (invariant_of-self c) own
    ∙ cell_kept c.self.inside.region c.next.inside.region c.args.given.now c.self.inside.grid c.offset.new.self c.unmark.new.grid c.args.dx c.args.dy x y cells c.unmark.ensures.cells gone own
    ∙ sym (cell_is c.self.inside.region c.self.inside.grid c.args.self.now (x -ℤ c.args.dx) (y -ℤ c.args.dy) c.self.invariant c.self.view_is (ap (λ l. region_has l (x -ℤ c.args.dx) (y -ℤ c.args.dy)) (sym (rects_are c.self.inside.region c.self.inside.grid c.args.self.now c.self.view_is)) ∙ was))

-- ---- where there is none

pub invariant_of-whole : goal.invariant_of-whole
invariant_of-whole c =
    black_seen c.next.inside.region c.next.inside.frame c.filled_in-grid.result c.next.invariant.bands c.next.invariant.some c.next.invariant.holds c.filled_in-grid.ensures.frame c.filled_in-grid.ensures.whole c.filled_in-grid.ensures.cells

pub returns-in_default-clause-region : goal.returns-in_default-clause-region
returns-in_default-clause-region c = ap (λ (s : Spans). s.rects) c.whole.view_is ∙ c.lay.ensures.region ∙ seen_rects c.next.inside.region c.filled_in-grid.result ∙ c.next.view_is

pub returns-in_default-clause-cells : goal.returns-in_default-clause-cells
returns-in_default-clause-cells c x y has was =
    let own = ap (λ l. region_has l x y) c.next.view_is ∙ has in
    let kept = black_seen c.next.inside.region c.next.inside.frame c.filled_in-grid.result c.next.invariant.bands c.next.invariant.some c.next.invariant.holds c.filled_in-grid.ensures.frame c.filled_in-grid.ensures.whole c.filled_in-grid.ensures.cells in
    let black = seen_cell c.next.inside.region c.filled_in-grid.result x y kept own ∙ c.filled_in-grid.ensures.cells x y (kept.inside x y own) in
    let there = (own_cell c.args.self.now (x -ℤ c.args.dx) (y -ℤ c.args.dy) (whole_is c.self.inside.region c.self.inside.grid c.args.self.now c.self.view_is)).0 was in
    let over = simp (to_z-of_z, c.ranges.dx, c.ranges.dy) at c.lay.ensures.cells in
    ap (λ s. cell_in s x y) c.whole.view_is ∙ over x y ∙ laid_here (cell_in c.args.self.now (x -ℤ c.args.dx) (y -ℤ c.args.dy)) _ there.0 black_cell there.1 black
