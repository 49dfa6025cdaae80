-- A row of a span.
use Rattle.std.proofs.Common.{pos, ◌+ℤ◌, ◌∙◌}
use Rattle.std.proofs.lemmas.Int.{to_z-of_z}
use Rattle.be_span.specs.Runs.{HasRun}
use Rattle.be_span.proofs.BufferLemmas.{cell_is, run_kept, run_of}
use Rattle.be_span.proofs.SpanLemmas.{span_run}
use Rattle.be_span.proofs.buffer.SpanBuf.cells_in.Goals as goal

row : (c : goal.After-self) → HasRun c.args.self.now.rects c.args.x c.args.y c.args.count
row c = span_run c.args.self.now.rects c.args.span c.args.x c.args.y c.args.count c.requires.span record { left = c.requires.left; right = c.requires.right; top = c.requires.top; bottom = c.requires.bottom }

pub row-requires-clause-run : goal.row-requires-clause-run
row-requires-clause-run c =
    simp (to_z-of_z, c.ranges.x, c.ranges.y) (run_kept c.self.inside.region c.self.inside.grid c.args.self.now c.args.x c.args.y c.args.count c.self.invariant c.self.view_is (row c))

pub returns-clause-cells : goal.returns-clause-cells
returns-clause-cells c k less =
    let read = simp (to_z-of_z, c.ranges.x, c.ranges.y) at c.row.ensures.cells in
    let run = span_run c.args.self.now.rects c.args.span c.args.x c.args.y c.args.count c.requires.span record { left = c.requires.left; right = c.requires.right; top = c.requires.top; bottom = c.requires.bottom } in
    cell_is c.self.inside.region c.self.inside.grid c.args.self.now (c.args.x +ℤ pos k) c.args.y c.self.invariant c.self.view_is (run_of c.self.inside.region c.self.inside.grid c.args.self.now c.args.x c.args.y c.args.count c.self.view_is run k less) ∙ read k less
