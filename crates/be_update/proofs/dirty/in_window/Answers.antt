use Rattle.std.proofs.Common.{◌≡◌, ◌-ℤ◌, ℤ, SFits, w16, w32, rules, refl, sym, ap₂, ◌∙◌}
use Rattle.std.specs.Prelude.{neg_ℤ}
use Rattle.std.proofs.lemmas.Bool.{true≢false}
use Rattle.std.proofs.lemmas.Int.{to_z-of_z}
use Rattle.be_region.specs.Regions.{region_has}
use Rattle.be_update.proofs.WindowLemmas.{FrameFits, stays_in_range}
use Rattle.be_update.proofs.dirty.in_window.Goals as goal

pub unreachable-requires : goal.unreachable-requires
unreachable-requires c =
    let px : SFits w16 c.args.place.x = search rules in
    let py : SFits w16 c.args.place.y = search rules in
    let x : SFits w32 c.back.result = search rules in
    let y : SFits w32 c.back-2.result = search rules in
    let fits : FrameFits c.args.frame = record { left = search rules; top = search rules; right = search rules; bottom = search rules } in
    let across : c.back.result ≡ neg_ℤ c.args.place.x = simp to_z-of_z at c.back.ensures in
    let down : c.back-2.result ≡ neg_ℤ c.args.place.y = simp to_z-of_z at c.back-2.ensures in
    let out = simp to_z-of_z at (c.in-Err.ensures.out.0 refl) in
    true≢false (sym (stays_in_range c.args.frame c.args.place.x c.args.place.y c.back.result c.back-2.result out.0 out.1.0 fits across down (c.requires out.0 out.1.0 out.1.1.0)) ∙ out.1.1.1)

pub returns : goal.returns
returns c x y =
    let px : SFits w16 c.args.place.x = search rules in
    let py : SFits w16 c.args.place.y = search rules in
    let bx : SFits w32 c.back.result = search rules in
    let by : SFits w32 c.back-2.result = search rules in
    let across : c.back.result ≡ neg_ℤ c.args.place.x = simp to_z-of_z at c.back.ensures in
    let down : c.back-2.result ≡ neg_ℤ c.args.place.y = simp to_z-of_z at c.back-2.ensures in
    let moved = simp to_z-of_z at (c.in-Ok.ensures.ok x y) in
    moved ∙ ap₂ (λ (p q : ℤ). region_has c.args.region (x -ℤ p) (y -ℤ q)) across down
