use Rattle.std.proofs.Common.{rules, SFits, w16, w64, ap}
use Rattle.std.specs.Prelude.{int_lt}
use Rattle.std.proofs.lemmas.Int.{to_z-of_z}
use Rattle.be_region.proofs.PlaceLemmas.{last_test}
use Rattle.be_descent.proofs.walk.is_passed.Goals as goal

pub returns-then-from-y-2 : goal.returns-then-from-y-2
returns-then-from-y-2 c =
    let x = c.ranges.x in
    let y = c.ranges.y in
    let r = c.args.rect in
    let f : SFits w16 r.bottom = search rules in
    let g : SFits w16 r.top = search rules in
    let k : SFits w16 r.right = search rules in
    let f' : SFits w64 c.from.result = search rules in
    let g' : SFits w64 c.from-else-from-y.result = search rules in
    let k' : SFits w64 c.from-then-from-y-2.result = search rules in
    let below = simp to_z-of_z at c.if-from-y.false in
    let in_rows = simp to_z-of_z at c.if-from-y-2.true in
    let bottom = simp to_z-of_z at c.from.ensures in
    let top = simp to_z-of_z at c.from-else-from-y.ensures in
    let right = simp to_z-of_z at c.from-then-from-y-2.ensures in
    simp to_z-of_z (last_test r c.args.x c.args.y _ (rw bottom at below) (rw top at in_rows)
    (ap (λ z. int_lt z c.args.x) right))
