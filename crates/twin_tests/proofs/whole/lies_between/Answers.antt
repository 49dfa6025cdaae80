use Rattle.std.proofs.Common.{SFits, w16, w32, ◌+ℤ◌, rules, arith}
use Rattle.std.proofs.lemmas.Int.{ints, to_z-of_z}
use Rattle.be_geom.proofs.Between.{still_between}
use Rattle.twin_tests.proofs.whole.lies_between.Goals as goal

pub returns-then-moved-from : goal.returns-then-moved-from
returns-then-moved-from c =
    let first : SFits w16 c.args.first = search rules in
    let last : SFits w16 c.args.last = search rules in
    let low : SFits w16 c.args.low = search rules in
    let high : SFits w16 c.args.high = search rules in
    let by : SFits w16 c.args.by = search rules in
    let moved : SFits w32 c.moved.result = search rules in
    let from : SFits w32 c.from.result = search rules in
    let limit : SFits w32 c.moved-then-moved-from.result = search rules in
    let of : SFits w32 c.from-then-moved-from.result = search rules in
    let test = simp to_z-of_z at c.if-moved-from.true in
    let one = simp to_z-of_z at c.moved.ensures in
    let two = simp to_z-of_z at c.moved-then-moved-from.ensures in
    let three = simp to_z-of_z at c.from.ensures in
    let four = simp to_z-of_z at c.from-then-moved-from.ensures in
    let left = c.args.low +ℤ c.args.by in
    let right = c.args.high +ℤ c.args.by in
    simp to_z-of_z (λ e z.
    still_between c.args.first c.args.last left right z (grind (arith, ints)) (grind (arith, ints)))
