-- A row written over others.
use Rattle.std.proofs.Common.{pos, ◌+ℤ◌, length, sym, ap, ◌∙◌}
use Rattle.std.proofs.lemmas.Int.{to_z-of_z}
use Rattle.be_span.specs.Seen.{IsSeen}
use Rattle.be_span.specs.Spans.{cell_in}
use Rattle.be_span.proofs.BufferLemmas.{cell_stays, rects_are, run_kept, run_of, seen_run, whole_is}
use Rattle.be_span.proofs.SeenLemmas.{seen_cell, seen_rects}
use Rattle.be_span.proofs.buffer.SpanBuf.put_counted.Goals as goal

pub put-requires-clause-run : goal.put-requires-clause-run
put-requires-clause-run c =
    simp (to_z-of_z, c.ranges.x, c.ranges.y) (run_kept c.self.inside.region c.self.inside.grid c.args.self.now c.args.x c.args.y (length c.args.cells.now) c.self.invariant c.self.view_is c.requires.run)

kept : (c : goal.After-put) → IsSeen c.self.inside.region c.put.new.self
kept c =
    let others = simp (to_z-of_z, c.ranges.x, c.ranges.y) at c.put.ensures.others in
    seen_run c.self.inside.region c.self.inside.grid c.put.new.self c.args.x c.args.y (length c.args.cells.now) c.self.invariant c.put.ensures.frame c.put.ensures.whole (run_of c.self.inside.region c.self.inside.grid c.args.self.now c.args.x c.args.y (length c.args.cells.now) c.self.view_is c.requires.run) others

pub invariant_of-self : goal.invariant_of-self
invariant_of-self c = kept c

pub returns-then-not-is_empty-clause-whole : goal.returns-then-not-is_empty-clause-whole
returns-then-not-is_empty-clause-whole c = whole_is c.self.inside.region c.self.inside.grid c.args.self.now c.self.view_is

pub returns-then-not-is_empty-clause-region : goal.returns-then-not-is_empty-clause-region
returns-then-not-is_empty-clause-region c = seen_rects c.self.inside.region c.put.new.self ∙ sym (rects_are c.self.inside.region c.self.inside.grid c.args.self.now c.self.view_is)

pub returns-then-not-is_empty-clause-cells : goal.returns-then-not-is_empty-clause-cells
returns-then-not-is_empty-clause-cells c k less =
    let cells = simp (to_z-of_z, c.ranges.x, c.ranges.y) at c.put.ensures.cells in
    seen_cell c.self.inside.region c.put.new.self (c.args.x +ℤ pos k) c.args.y (kept c) (run_of c.self.inside.region c.self.inside.grid c.args.self.now c.args.x c.args.y (length c.args.cells.now) c.self.view_is c.requires.run k less) ∙ cells k less

pub returns-then-not-is_empty-clause-others : goal.returns-then-not-is_empty-clause-others
returns-then-not-is_empty-clause-others c z w beside =
    let others = simp (to_z-of_z, c.ranges.x, c.ranges.y) at c.put.ensures.others in
    cell_stays c.self.inside.region c.self.inside.grid c.put.new.self z w c.self.invariant (kept c) (others z w beside) ∙ ap (λ s. cell_in s z w) c.self.view_is

pub returns-else-not-is_empty-clause-whole : goal.returns-else-not-is_empty-clause-whole
returns-else-not-is_empty-clause-whole c = whole_is c.self.inside.region c.self.inside.grid c.args.self.now c.self.view_is
