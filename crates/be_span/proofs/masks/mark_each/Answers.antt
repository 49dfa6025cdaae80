-- No mark changes.
use Rattle.std.proofs.Common.{refl}
use Rattle.be_span.proofs.SliceLemmas.{marks_same}
use Rattle.be_span.proofs.masks.mark_each.Goals as goal

pub returns-then-replaces-clause-marks : goal.returns-then-replaces-clause-marks
returns-then-replaces-clause-marks c =
    marks_same _ c.args.cells.now c.put_each.new.cells c.put_each.ensures (λ k d. refl)

pub returns-else-clean-clause-marks : goal.returns-else-clean-clause-marks
returns-else-clean-clause-marks c =
    marks_same _ c.args.cells.now c.paint_each.new.cells c.paint_each.ensures (λ k d. refl)
