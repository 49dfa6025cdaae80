-- The cells of what both have.
use Rattle.std.proofs.Common.{ap, ◌∙◌, ◌&&◌, ◌-ℤ◌, pos, cond, Option, Some, None}
use Rattle.be_region.specs.Regions.{region_has}
use Rattle.be_span.specs.declared.Cell.{Cell}
use Rattle.be_span.specs.Spans.{black_cell, cell_in, laid}
use Rattle.be_span.proofs.LaidLemmas.{laid_part, minus_none, own_cell}
use Rattle.be_span.proofs.buffer.SpanBuf.part.Goals as goal

pub returns-clause-cells : goal.returns-clause-cells
returns-clause-cells c x y =
    let none : Option Cell = None in
    let old = c.in_ok-both.ensures x y ∙ ap (λ l. region_has l x y) c.region.ensures.region in
    let both = c.in_ok-intersect.ensures.ok x y ∙ ap (λ b. b && region_has c.args.region.now x y) old in
    let black = c.in_ok-part.ensures.black x y ∙ ap (λ b. cond b (Some black_cell) none) both in
    let over = c.lay.ensures.cells x y ∙ ap (laid (cell_in c.args.self.now (x -ℤ pos 0) (y -ℤ pos 0))) black in
    rw (minus_none x, minus_none y) at over
    ∙ laid_part (region_has c.args.self.now.rects x y) (region_has c.args.region.now x y) (cell_in c.args.self.now x y) (own_cell c.args.self.now x y c.region.ensures.whole)
