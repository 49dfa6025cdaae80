-- The distance fits 32 bits, and what is left of it 16.
use Rattle.std.proofs.Common.{SFits, w16, w32, rules, ap, ◌∙◌}
use Rattle.std.proofs.lemmas.Int.{to_z-of_z}
use Rattle.be_input.specs.Deliveries.{saturated}
use Rattle.be_pressed.proofs.opening.length_of.Goals as goal

pub returns : goal.returns
returns c =
    let first : SFits w16 c.args.first = search rules in
    let last : SFits w16 c.args.last = search rules in
    let wide : SFits w32 c.distance.result = search rules in
    let held : SFits w32 c.clamp.result = search rules in
    let short : SFits w16 c.clamp.result = search rules in
    let apart = simp to_z-of_z at c.distance.ensures in
    let is = simp to_z-of_z at c.clamp.ensures.value in
    simp to_z-of_z (is ∙ ap saturated apart)
