-- Two colours that take the place of others.
use Rattle.std.proofs.Common.{◌+◌, length, slice_get, cond, arith, inl, inr, refl, sym, ap, ◌∙◌}
use Rattle.std.specs.Option.{option_map}
use Rattle.std.proofs.lemmas.Bool.{cases_lt}
use Rattle.std.proofs.lemmas.Option.{slice_get_past}
use Rattle.be_color.specs.declared.colors.Color.{Color}
use Rattle.be_color.specs.declared.colors.Color.TheVariants.{Solid}
use Rattle.be_span.specs.Slices.{painted, turned_bit}
use Rattle.be_span.proofs.SliceLemmas.{marks_same, turn_put}
use Rattle.be_span.proofs.cells.paint_turns.Goals as goal

pub returns-in-Solid-Solid-clause-cells : goal.returns-in-Solid-Solid-clause-cells
returns-in-Solid-Solid-clause-cells c k =
    let old = c.args.cells.now in
    let bit = turned_bit c.args.byte (c.args.first + k) in
    let long = c.tile.ensures.len in
    elim (cases_lt k (length old)) [
      | inl h ↦
          c.tile.ensures.each k h
          ∙ turn_put c.args.brush bit c.in-Solid-Solid.set c.in-Solid-Solid.unset old k (sym c.replaces.ensures ∙ c.if-replaces.true) (c.requires.clean c.if-clean.true) h
          ∙ ap (λ (s : Color). option_map (painted c.args.brush (cond bit s (Solid c.in-Solid-Solid.unset))) (slice_get old k)) (sym c.in-Solid-Solid.is-0)
          ∙ ap (λ (s : Color). option_map (painted c.args.brush (cond bit c.args.set s)) (slice_get old k)) (sym c.in-Solid-Solid.is-1)
      | inr h ↦ slice_get_past c.tile.new.cells k (omega arith) ∙ sym (ap (option_map _) (slice_get_past old k h))
    ]

pub returns-in-Solid-Solid-clause-marks : goal.returns-in-Solid-Solid-clause-marks
returns-in-Solid-Solid-clause-marks c =
    marks_same (λ k. painted c.args.brush (cond (turned_bit c.args.byte (c.args.first + k)) c.args.set c.args.unset)) c.args.cells.now c.tile.new.cells (returns-in-Solid-Solid-clause-cells c) (λ k d. refl)
