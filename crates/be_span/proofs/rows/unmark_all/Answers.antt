-- One more cell.
use Rattle.std.proofs.Common.{arith}
use Rattle.be_span.specs.Cells.{unmarked}
use Rattle.be_span.proofs.SliceLemmas.{each_step}
use Rattle.be_span.proofs.rows.unmark_all.Goals as goal

pub loop-cell-preserved : goal.loop-cell-preserved
loop-cell-preserved c =
    each_step unmarked c.args.cells.now c.loop-cell.cells c.loop-cell.cell-index _ c.unmarked.result c.loop-cell-test.true (omega arith) c.loop-cell.invariant c.unmarked.ensures
