-- No mark changes.
use Rattle.std.proofs.Common.{ℕ, refl, arith}
use Rattle.be_span.specs.declared.Cell.{Cell}
use Rattle.be_span.specs.declared.brush.Brush.{Brush}
use Rattle.be_span.specs.Slices.{painted}
use Rattle.be_span.proofs.SliceLemmas.{done_all, marks_same}
use Rattle.be_span.proofs.cells.paint_each.Goals as goal

pub returns-clause-marks : goal.returns-clause-marks
returns-clause-marks g c =
    let brush : Brush = record { mode = c.args.mode; high = c.args.high; low = c.args.low } in
    let f : ℕ → Cell → Cell = λ k. painted brush (g.S.Source.color_at c.args.source.now k) in
    marks_same f c.args.cells.now c.loop-cell.cells
    (λ k. done_all f c.args.cells.now c.loop-cell.cells c.loop-cell.cell-index k (omega arith) c.loop-cell.invariant.cells)
    (λ k d. refl)
