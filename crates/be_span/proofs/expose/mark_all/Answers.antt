-- One more cell.
use Rattle.std.proofs.Common.{arith, refl}
use Rattle.be_color.specs.declared.colors.Color.TheVariants.{Clear}
use Rattle.be_span.specs.Cells.{exposed_cell}
use Rattle.be_span.proofs.SliceLemmas.{each_step}
use Rattle.be_span.proofs.expose.mark_all.Goals as goal

pub loop-cell-preserved : goal.loop-cell-preserved
loop-cell-preserved c =
    each_step (exposed_cell Clear) c.args.cells.now c.loop-cell.cells c.loop-cell.cell-index _ _ c.loop-cell-test.true (omega arith) c.loop-cell.invariant refl
