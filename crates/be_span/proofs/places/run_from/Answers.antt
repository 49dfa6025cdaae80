-- The rectangle of the pixel tells how far its span goes.
use Rattle.std.proofs.Common.{◌≡◌, SFits, w16, w32, arith, rules, sym, ◌∙◌}
use Rattle.std.proofs.lemmas.Int.{ints, to_z-of_z}
use Rattle.be_span.proofs.PlaceLemmas.{pixel_at, run_at}
use Rattle.be_span.proofs.places.run_from.Goals as goal

pub columns-requires : goal.columns-requires
columns-requires c =
    let x = c.ranges.x in
    let y = c.ranges.y in
    let span = simp to_z-of_z at c.in-Some.ensures.some in
    let inside = pixel_at c.args.region.now c.in-Some.place c.unwrap-rect.result c.args.x c.args.y span (sym c.rect_at.ensures.at_place ∙ c.unwrap-rect.ensures) in
    let right = inside.right in
    let fits : SFits w16 c.unwrap-rect.result.right = search rules in
    let bits : SFits w32 c.from.result = search rules in
    let is : c.from.result ≡ c.unwrap-rect.result.right = simp to_z-of_z at c.from.ensures in
    simp to_z-of_z (omega (arith, ints))

pub returns-clause-some : goal.returns-clause-some
returns-clause-some c =
    let x = c.ranges.x in
    let y = c.ranges.y in
    let span = simp to_z-of_z at c.in-Some.ensures.some in
    let fits : SFits w16 c.unwrap-rect.result.right = search rules in
    let bits : SFits w32 c.from.result = search rules in
    let is : c.from.result ≡ c.unwrap-rect.result.right = simp to_z-of_z at c.from.ensures in
    let long = simp to_z-of_z at c.columns.ensures.columns in
    run_at c.args.region.now c.in-Some.place c.columns.result c.unwrap-rect.result c.args.x c.args.y span (sym c.rect_at.ensures.at_place ∙ c.unwrap-rect.ensures) (omega (arith, ints))
