-- A row of a grid.
use Rattle.std.proofs.Common.{ap, ◌∙◌, sym, pos, ◌+ℤ◌, subst, length, arith}
use Rattle.std.proofs.lemmas.Int.{to_z-of_z}
use Rattle.be_span.specs.Runs.{HasRun}
use Rattle.be_span.specs.Spans.{Spans, block, cell_in}
use Rattle.be_span.proofs.grid.Grid.row.Goals as goal

pub row_in-requires-clause-full : goal.row_in-requires-clause-full
row_in-requires-clause-full c = c.self.invariant.some

pub row_in-requires-clause-fits : goal.row_in-requires-clause-fits
row_in-requires-clause-fits c =
    let whole = c.self.invariant.whole in
    let same = ap length c.deref.ensures.value in
    omega arith

pub row_in-requires-clause-run : goal.row_in-requires-clause-run
row_in-requires-clause-run c =
    simp (to_z-of_z, c.ranges.x, c.ranges.y) (subst (λ (s : Spans). HasRun s.rects c.args.x c.args.y c.args.count) (sym c.self.view_is) c.requires.run)

pub returns-clause-cells : goal.returns-clause-cells
returns-clause-cells c k less =
    let cells = simp (to_z-of_z, c.ranges.x, c.ranges.y) at c.row_in.ensures.cells in
    ap (λ s. cell_in s (c.args.x +ℤ pos k) c.args.y) (sym c.self.view_is)
    ∙ ap (λ l. cell_in (block c.self.inside.frame l) (c.args.x +ℤ pos k) c.args.y) (sym c.deref.ensures.value)
    ∙ cells k less
