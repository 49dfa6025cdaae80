use Rattle.std.proofs.Common.{rules, ◌≡◌, ◌∙◌, ℤ, ◌-ℤ◌, Option, Some, None, option_map, option_and_then, refl, ap, SFits, w16, w32, w64}
use Rattle.std.proofs.lemmas.Int.{to_z-of_z}
use Rattle.be_geom.specs.declared.point.Point.{Point}
use Rattle.be_geom.specs.Places.{at_pixel, less}
use Rattle.be_views.specs.Places.{pair_of}
use Rattle.be_input.specs.Deliveries.{place_in}
use Rattle.be_input.specs.Pointing.{corner_of}
use Rattle.be_input.proofs.under.place_seen.Goals as goal

pairs : (place : Option Point) (p k : Point)
    → option_map (λ (lt : ℤ × ℤ). at_pixel (p.x -ℤ k.x -ℤ lt.0) (p.y -ℤ k.y -ℤ lt.1)) (option_map pair_of place) ≡ option_map (λ place. less (less p k) place) place
pairs (Some q) p k = refl
pairs None p k = refl

seen : (corner place : Option Point) (p k : Point) (l t : ℤ) → Some k ≡ corner → Some (l, t) ≡ option_map pair_of place
    → Some (at_pixel (p.x -ℤ k.x -ℤ l) (p.y -ℤ k.y -ℤ t)) ≡ option_and_then (λ corner. option_map (λ place. less (less p corner) place) place) corner
seen corner place p k l t is at =
    ap (option_map (λ (lt : ℤ × ℤ). at_pixel (p.x -ℤ k.x -ℤ lt.0) (p.y -ℤ k.y -ℤ lt.1))) at
    ∙ (pairs place p k ∙ ap (option_and_then (λ corner. option_map (λ place. less (less p corner) place) place)) is)

pub returns : goal.returns
returns c =
    let fa : SFits w16 c.args.p.x = search rules in
    let fb : SFits w16 c.args.p.y = search rules in
    let fc : SFits w16 c.in_ok-corner.corner.x = search rules in
    let fd : SFits w16 c.in_ok-corner.corner.y = search rules in
    let fe : SFits w32 c.in_ok-left.left = search rules in
    let ff : SFits w32 c.in_ok-left.top = search rules in
    let fg : SFits w64 c.seen_from.result = search rules in
    let fh : SFits w64 c.seen_from-2.result = search rules in
    let across = simp to_z-of_z at c.seen_from.ensures in
    let down = simp to_z-of_z at c.seen_from-2.ensures in
    let all = seen (corner_of c.args.stack.now c.args.at.0) (place_in c.args.pointing.now.trees c.args.at) c.args.p c.in_ok-corner.corner c.in_ok-left.left c.in_ok-left.top c.in_ok-corner.ensures c.in_ok-left.ensures in
    rw (to_z-of_z w64 c.seen_from.result fg) (rw (to_z-of_z w64 c.seen_from-2.result fh) (rw across (rw down all)))
