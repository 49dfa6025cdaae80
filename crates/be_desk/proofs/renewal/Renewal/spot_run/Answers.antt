-- The views of both trees, together.
use Rattle.std.proofs.Common.{ℕ, ℤ, Option, rules, SFits, w32, ◌∙◌, ap}
use Rattle.std.proofs.lemmas.Int.{to_z-of_z}
use Rattle.be_desk.specs.Renewals.{is_kept_view, view_from}
use Rattle.be_desk.proofs.StretchLemmas.{joined}
use Rattle.be_desk.proofs.renewal.Renewal.spot_run.Goals as goal

pub returns-clause-answer : goal.returns-clause-answer
returns-clause-answer c =
    let x = c.ranges.x in
    let y = c.ranges.y in
    let end = c.ranges.end in
    let old = simp to_z-of_z at c.view_run-old.ensures.answer in
    let new = simp to_z-of_z at c.view_run-new.ensures.answer in
    let t = c.args.self.now.pane.now.tree in
    let u = c.args.self.now.tree.now in
    c.keeps_view.ensures
    ∙ ap (λ (o : Option ℕ). is_kept_view t u o c.view_run-new.result.0) old
    ∙ ap (is_kept_view t u (view_from t c.args.self.now.pane.now.place c.args.x c.args.y)) new

pub returns-clause-run : goal.returns-clause-run
returns-clause-run c =
    let x = c.ranges.x in
    let y = c.ranges.y in
    let end = c.ranges.end in
    let l : SFits w32 c.view_run-old.result.1 = search rules in
    let r : SFits w32 c.view_run-new.result.1 = search rules in
    let old = simp to_z-of_z at c.view_run-old.ensures.run in
    let new = simp to_z-of_z at c.view_run-new.ensures.run in
    let t = c.args.self.now.pane.now.tree in
    let u = c.args.self.now.tree.now in
    let f : ℤ → Option ℕ = λ z. view_from t c.args.self.now.pane.now.place z c.args.y in
    let g : ℤ → Option ℕ = λ z. view_from u c.args.self.now.place z c.args.y in
    simp to_z-of_z (joined (is_kept_view t u) f g c.args.x c.args.end c.view_run-old.result.1 c.view_run-new.result.1 old new)
