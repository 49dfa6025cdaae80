use Rattle.std.proofs.Common.{◌≡◌, ◌-ℤ◌, SFits, w16, w64, rules, arith}
use Rattle.std.proofs.lemmas.Int.{ints, clamps, to_z-of_z}
use Rattle.be_update.proofs.listing.seen_from.Goals as goal

pub returns-then-seen-from : goal.returns-then-seen-from
returns-then-seen-from c =
    let x = c.ranges.coordinate in
    let z = c.ranges.zero in
    let e : c.from.result ≡ c.args.coordinate = simp to_z-of_z at c.from.ensures in
    let f : c.from-2.result ≡ c.args.zero = simp to_z-of_z at c.from-2.ensures in
    let a : SFits w64 c.from.result = search rules in
    let b : SFits w64 c.from-2.result = search rules in
    let d : SFits w64 (c.from.result -ℤ c.from-2.result) = search rules in
    let less = simp to_z-of_z at c.if-seen-from.true in
    let low = c.requires in
    let s : SFits w16 (c.from.result -ℤ c.from-2.result) = search rules in
    simp to_z-of_z (grind (arith, ints, clamps))
