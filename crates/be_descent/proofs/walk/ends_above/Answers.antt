use Rattle.std.proofs.Common.{◌-ℤ◌, rules, SFits, w16, w32, w64, arith}
use Rattle.std.proofs.lemmas.Int.{to_z-of_z, ints}
use Rattle.be_descent.proofs.walk.ends_above.Goals as goal

pub returns : goal.returns
returns c less =
    let ab : SFits w16 c.args.area.bottom = search rules in
    let rt : SFits w16 c.args.rect.top = search rules in
    let dy : SFits w32 c.args.way.down = search rules in
    let s0 : SFits w64 c.from.result = search rules in
    let s1 : SFits w64 c.from-2.result = search rules in
    let s2 : SFits w64 c.from-3.result = search rules in
    let e0 = simp to_z-of_z at c.from.ensures in
    let e1 = simp to_z-of_z at c.from-2.ensures in
    let e2 = simp to_z-of_z at c.from-3.ensures in
    let s3 : SFits w64 (c.from.result -ℤ c.from-2.result) = search rules in
    let test = simp to_z-of_z at less in
    omega (arith, ints)
