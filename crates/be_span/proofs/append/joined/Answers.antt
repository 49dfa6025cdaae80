-- The cells of two buffers.
use Rattle.std.proofs.Common.{ap, ◌∙◌, ◌||◌, ◌-ℤ◌, pos, cond, Option, Some, None}
use Rattle.be_region.specs.Regions.{region_has}
use Rattle.be_span.specs.declared.Cell.{Cell}
use Rattle.be_span.specs.Spans.{black_cell, cell_in, laid}
use Rattle.be_span.proofs.LaidLemmas.{laid_both, minus_none, own_cell}
use Rattle.be_span.proofs.append.joined.Goals as goal

pub returns-clause-cells : goal.returns-clause-cells
returns-clause-cells c x y =
    let none : Option Cell = None in
    let old = c.in_ok-both.ensures x y ∙ ap (λ l. region_has l x y) c.region.ensures.region in
    let other = ap (λ l. region_has l x y) c.region-2.ensures.region in
    let both = c.in_ok-include.ensures.ok x y ∙ ap (λ b. b || region_has c.region-2.result.now x y) old ∙ ap (λ b. region_has c.args.one.now.rects x y || b) other in
    let black = c.in_ok-whole.ensures.black x y ∙ ap (λ b. cond b (Some black_cell) none) both in
    let under = c.lay.ensures.cells x y ∙ ap (laid (cell_in c.args.one.now (x -ℤ pos 0) (y -ℤ pos 0))) black in
    let over = c.lay-2.ensures.cells x y ∙ ap (laid (cell_in c.args.other.now (x -ℤ pos 0) (y -ℤ pos 0))) under in
    rw (minus_none x, minus_none y) at over
    ∙ laid_both (region_has c.args.one.now.rects x y) (region_has c.args.other.now.rects x y) (cell_in c.args.one.now x y) (cell_in c.args.other.now x y) (own_cell c.args.one.now x y c.region.ensures.whole) (own_cell c.args.other.now x y c.region-2.ensures.whole)
