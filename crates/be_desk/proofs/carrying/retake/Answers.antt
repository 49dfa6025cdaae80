-- The pixels go their way, and the newly exposed ones are laid.
use Rattle.std.proofs.Common.{rules, SFits, w32, List, ◌-ℤ◌, ◌&&◌, ap, ◌∙◌, subst}
use Rattle.std.specs.Prelude.{not}
use Rattle.std.proofs.lemmas.Int.{to_z-of_z}
use Rattle.be_geom.specs.declared.rect.Rect.{Rect}
use Rattle.be_region.specs.Regions.{SamePixels, region_has}
use Rattle.be_span.specs.Spans.{Spans, cell_in}
use Rattle.be_desk.specs.Shifts.{newest}
use Rattle.be_desk.proofs.ShiftLemmas.{has_cell, shifted_is}
use Rattle.be_desk.proofs.carrying.retake.Goals as goal

pub retake-requires : goal.retake-requires
retake-requires c =
    let x : SFits w32 c.args.shift.dx = search rules in
    let y : SFits w32 c.args.shift.dy = search rules in
    let same = subst (λ (l : List Rect). SamePixels c.args.shift.from l) c.region.ensures.region (c.has_same_pixels.ensures.0 c.if-not-has_same_pixels.false) in
    simp to_z-of_z (λ z w. c.args.shift.gone z w ∙ ap (λ b. b && not (region_has c.args.shift.next z w)) (same (z -ℤ c.args.shift.dx) (w -ℤ c.args.shift.dy)))

pub returns : goal.returns
returns c same =
    let x : SFits w32 c.args.shift.dx = search rules in
    let y : SFits w32 c.args.shift.dy = search rules in
    let kept = simp to_z-of_z at c.retake.ensures.cells in
    let shift = c.args.shift in
    shifted_is shift.dx shift.dy shift.from shift.next shift.fresh.items c.args.spans.now c.retake.new.self c.lay_parts.new.spans c.whole-2.ensures.bands c.whole-2.ensures.cells same (c.lay_parts.ensures.region ∙ c.retake.ensures.region) kept
    (λ z w has. c.lay_parts.ensures.cells z w (has_cell c.retake.new.self z w c.whole.ensures.cells (ap (λ l. region_has l z w) c.retake.ensures.region ∙ has))
    ∙ ap (λ (l : List Spans). newest l z w (cell_in c.retake.new.self z w)) c.deref.ensures.value) shift.whole
