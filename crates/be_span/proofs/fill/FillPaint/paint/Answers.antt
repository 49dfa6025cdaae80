-- Cells of which it is known that none is dirty.
use Rattle.std.proofs.Common.{refl, sym, ap, ◌∙◌, inl, inr, length, arith}
use Rattle.std.specs.Option.{option_map}
use Rattle.std.proofs.lemmas.Bool.{cases_lt}
use Rattle.std.proofs.lemmas.Option.{slice_get_past}
use Rattle.be_span.specs.Slices.{recolored}
use Rattle.be_span.proofs.MarkLemmas.{recolored_clean}
use Rattle.be_span.proofs.SliceLemmas.{marks_same}
use Rattle.be_span.proofs.fill.FillPaint.paint.Goals as goal

pub returns-then-clean-clause-cells : goal.returns-then-clean-clause-cells
returns-then-clean-clause-cells c k =
    let old = c.args.cells.now in
    let new = c.fill_each.new.cells in
    let rgb = c.args.self.now.rgb in
    let long = c.fill_each.ensures.len in
    elim (cases_lt k (length old)) [
      | inl h ↦ c.fill_each.ensures.each k h ∙ sym (recolored_clean rgb old k (c.requires.clean c.if-clean.true) h)
      | inr h ↦ slice_get_past new k (omega arith) ∙ sym (ap (option_map (recolored rgb)) (slice_get_past old k h))
    ]

pub returns-then-clean-clause-marks : goal.returns-then-clean-clause-marks
returns-then-clean-clause-marks c =
    marks_same (λ k. recolored c.args.self.now.rgb) c.args.cells.now c.fill_each.new.cells (returns-then-clean-clause-cells c) (λ k d. refl)
