-- Kept, or the view's colour.
use Rattle.std.proofs.Common.{ℤ, Bool, Option, rules, SFits, w32, ◌∙◌, sym}
use Rattle.std.proofs.lemmas.Int.{to_z-of_z}
use Rattle.be_color.specs.declared.colors.Color.{Color}
use Rattle.be_desk.specs.Renewals.{is_kept_at, color_at}
use Rattle.be_desk.proofs.StretchLemmas.{none_kept, some_exposed}
use Rattle.be_desk.proofs.renewal.Renewal.exposure_run.Goals as goal

pub returns-then-kept-clause-run : goal.returns-then-kept-clause-run
returns-then-kept-clause-run c =
    let x = c.ranges.x in
    let y = c.ranges.y in
    let end = c.ranges.end in
    let l : SFits w32 c.kept_run-kept.result.1 = search rules in
    let answer = simp to_z-of_z at c.kept_run-kept.ensures.answer in
    let run = simp to_z-of_z at c.kept_run-kept.ensures.run in
    let f : ℤ → Bool = λ z. is_kept_at c.args.self.now z c.args.y in
    let g : ℤ → Option Color = λ z. color_at c.args.self.now z c.args.y in
    simp to_z-of_z (none_kept f g c.args.x c.args.end c.kept_run-kept.result.1 run (sym answer ∙ c.if-kept.true))

pub returns-clause-run : goal.returns-clause-run
returns-clause-run c =
    let x = c.ranges.x in
    let y = c.ranges.y in
    let end = c.ranges.end in
    let l : SFits w32 c.kept_run-kept.result.1 = search rules in
    let answer = simp to_z-of_z at c.kept_run-kept.ensures.answer in
    let run = simp to_z-of_z at c.kept_run-kept.ensures.run in
    let m : SFits w32 c.color_run.result.1 = search rules in
    let more = simp to_z-of_z at c.color_run.ensures.run in
    let f : ℤ → Bool = λ z. is_kept_at c.args.self.now z c.args.y in
    let g : ℤ → Option Color = λ z. color_at c.args.self.now z c.args.y in
    some_exposed f g c.args.x c.args.end c.kept_run-kept.result.1 c.color_run.result.1 run (sym answer ∙ c.if-kept.false) more
