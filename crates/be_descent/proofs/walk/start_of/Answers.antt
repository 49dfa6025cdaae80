use Rattle.std.proofs.Common.{◌≡◌, ◌+ℤ◌, ◌-ℤ◌, ◌<ℤ◌, pos, inl, inr, rules, SFits, w16, w32, w64}
use Rattle.std.proofs.Common.{arith}
use Rattle.std.proofs.lemmas.Int.{to_z-of_z, ints}
use Rattle.be_descent.proofs.walk.start_of.Goals as goal

pub returns-then-end-from-clause-down : goal.returns-then-end-from-clause-down
returns-then-end-from-clause-down c =
    let ar : SFits w16 c.args.area.right = search rules in
    let rl : SFits w16 c.args.rect.left = search rules in
    let rb : SFits w16 c.args.rect.bottom = search rules in
    let dx : SFits w32 c.args.way.right = search rules in
    let s3 : SFits w64 c.from-3.result = search rules in
    let s4 : SFits w64 c.from-4.result = search rules in
    let s5 : SFits w64 c.from-5.result = search rules in
    let s6 : SFits w64 c.from-then-end-from.result = search rules in
    let e3 = simp to_z-of_z at c.from-3.ensures in
    let e4 = simp to_z-of_z at c.from-4.ensures in
    let e5 = simp to_z-of_z at c.from-5.ensures in
    let e6 = simp to_z-of_z at c.from-then-end-from.ensures in
    let s7 : SFits w64 (c.from-3.result -ℤ c.from-4.result) = search rules in
    let s8 : SFits w64 (c.from-then-end-from.result +ℤ pos 1) = search rules in
    let test = simp to_z-of_z at c.if-end-from.true in
    let less : (c.args.area.right -ℤ c.args.way.right) <ℤ c.args.rect.left = omega (arith, ints) in
    let is : c.from-then-end-from.result +ℤ pos 1 ≡ c.args.rect.bottom +ℤ pos 1 =
    omega (arith, ints) in
    simp to_z-of_z (inl (less, is))

pub returns-clause-across : goal.returns-clause-across
returns-clause-across c =
    let al : SFits w16 c.args.area.left = search rules in
    let dx : SFits w32 c.args.way.right = search rules in
    let s1 : SFits w64 c.from.result = search rules in
    let s2 : SFits w64 c.from-2.result = search rules in
    let e1 = simp to_z-of_z at c.from.ensures in
    let e2 = simp to_z-of_z at c.from-2.ensures in
    let s3 : SFits w64 (c.from.result -ℤ c.from-2.result) = search rules in
    let is : c.from.result -ℤ c.from-2.result ≡ c.args.area.left -ℤ c.args.way.right =
    omega (arith, ints) in
    simp to_z-of_z is

pub returns-clause-down : goal.returns-clause-down
returns-clause-down c =
    let at : SFits w16 c.args.area.top = search rules in
    let rt : SFits w16 c.args.rect.top = search rules in
    let dy : SFits w32 c.args.way.down = search rules in
    let s6 : SFits w64 c.from-6.result = search rules in
    let s7 : SFits w64 c.from-7.result = search rules in
    let s8 : SFits w64 c.from-8.result = search rules in
    let m : SFits w64 c.max.result = search rules in
    let e6 = simp to_z-of_z at c.from-6.ensures in
    let e7 = simp to_z-of_z at c.from-7.ensures in
    let e8 = simp to_z-of_z at c.from-8.ensures in
    let s9 : SFits w64 (c.from-6.result -ℤ c.from-7.result) = search rules in
    simp to_z-of_z (inr (rw (e6, e7, e8) at (simp to_z-of_z at c.max.ensures.value)))

pub overflow_add-result : goal.overflow_add-result
overflow_add-result c =
    let rb : SFits w16 c.args.rect.bottom = search rules in
    let s6 : SFits w64 c.from-then-end-from.result = search rules in
    let e6 = simp to_z-of_z at c.from-then-end-from.ensures in
    simp to_z-of_z (search rules)

pub returns-then-end-from-clause-across : goal.returns-then-end-from-clause-across
returns-then-end-from-clause-across c =
    let al : SFits w16 c.args.area.left = search rules in
    let dx : SFits w32 c.args.way.right = search rules in
    let s1 : SFits w64 c.from.result = search rules in
    let s2 : SFits w64 c.from-2.result = search rules in
    let e1 = simp to_z-of_z at c.from.ensures in
    let e2 = simp to_z-of_z at c.from-2.ensures in
    let s3 : SFits w64 (c.from.result -ℤ c.from-2.result) = search rules in
    let is : c.from.result -ℤ c.from-2.result ≡ c.args.area.left -ℤ c.args.way.right =
    omega (arith, ints) in
    simp to_z-of_z is

pub overflow_sub-top : goal.overflow_sub-top
overflow_sub-top c =
    let at : SFits w16 c.args.area.top = search rules in
    let dy : SFits w32 c.args.way.down = search rules in
    let s6 : SFits w64 c.from-6.result = search rules in
    let s7 : SFits w64 c.from-7.result = search rules in
    let e6 = simp to_z-of_z at c.from-6.ensures in
    let e7 = simp to_z-of_z at c.from-7.ensures in
    simp to_z-of_z (search rules)
