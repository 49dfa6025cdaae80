-- Owned, then the same spot.
use Rattle.std.proofs.Common.{ℤ, Bool, rules, SFits, w32, ◌∙◌, sym}
use Rattle.std.proofs.lemmas.Int.{to_z-of_z}
use Rattle.be_geom.proofs.StretchLemmas.{no_stretch, yes_stretch}
use Rattle.be_desk.specs.Renewals.{owned, shows_same_spot}
use Rattle.be_desk.proofs.renewal.Renewal.resized_run.Goals as goal

pub returns-then-not-owned-clause-run : goal.returns-then-not-owned-clause-run
returns-then-not-owned-clause-run c =
    let x = c.ranges.x in
    let y = c.ranges.y in
    let end = c.ranges.end in
    let l : SFits w32 c.owned_run-owned.result.1 = search rules in
    let answer = simp to_z-of_z at c.owned_run-owned.ensures.answer in
    let run = simp to_z-of_z at c.owned_run-owned.ensures.run in
    let f : ℤ → Bool = λ z. owned c.args.self.now z c.args.y in
    let g : ℤ → Bool = λ z. shows_same_spot c.args.self.now z c.args.y in
    simp to_z-of_z (no_stretch f g c.args.x c.args.end c.owned_run-owned.result.1 run (sym answer ∙ c.if-not-owned.true))

pub returns-clause-run : goal.returns-clause-run
returns-clause-run c =
    let x = c.ranges.x in
    let y = c.ranges.y in
    let end = c.ranges.end in
    let l : SFits w32 c.owned_run-owned.result.1 = search rules in
    let answer = simp to_z-of_z at c.owned_run-owned.ensures.answer in
    let run = simp to_z-of_z at c.owned_run-owned.ensures.run in
    let s : SFits w32 c.spot_run.result.1 = search rules in
    let more = simp to_z-of_z at c.spot_run.ensures.run in
    let f : ℤ → Bool = λ z. owned c.args.self.now z c.args.y in
    let g : ℤ → Bool = λ z. shows_same_spot c.args.self.now z c.args.y in
    yes_stretch f g c.args.x c.args.end c.owned_run-owned.result.1 c.spot_run.result.1 run (sym answer ∙ c.if-not-owned.false) more
