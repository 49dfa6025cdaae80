-- The colours of the views.
use Rattle.std.proofs.Common.{ℕ, ℤ, Option, slice_get, rules, SFits, w32, ◌∙◌, ap}
use Rattle.std.specs.Prelude.{option_and_then}
use Rattle.std.proofs.lemmas.Int.{to_z-of_z}
use Rattle.be_geom.proofs.StretchLemmas.{mapped}
use Rattle.be_desk.specs.Renewals.{view_from}
use Rattle.be_desk.proofs.renewal.Renewal.color_run.Goals as goal

pub returns-clause-answer : goal.returns-clause-answer
returns-clause-answer c =
    let x = c.ranges.x in
    let y = c.ranges.y in
    let view = simp to_z-of_z at c.view_run-view.ensures.answer in
    c.color_of.ensures ∙ ap (option_and_then (slice_get c.args.self.now.pane.now.colors.items)) view

pub returns-clause-run : goal.returns-clause-run
returns-clause-run c =
    let x = c.ranges.x in
    let y = c.ranges.y in
    let end = c.ranges.end in
    let l : SFits w32 c.view_run-view.result.1 = search rules in
    let run = simp to_z-of_z at c.view_run-view.ensures.run in
    let f : ℤ → Option ℕ = λ z. view_from c.args.self.now.tree.now c.args.self.now.place z c.args.y in
    simp to_z-of_z (mapped (option_and_then (slice_get c.args.self.now.pane.now.colors.items)) f c.args.x c.args.end c.view_run-view.result.1 run)
