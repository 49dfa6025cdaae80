use Rattle.std.proofs.Common.{◌≡◌, ◌+ℤ◌, ◌≤ℤ◌, ◌<ℤ◌, rules, SFits, w16, w64, arith}
use Rattle.std.specs.Int.{int_max, int_min}
use Rattle.std.proofs.lemmas.Int.{to_z-of_z, ints}
use Rattle.be_descent.proofs.PartLemmas.{edges_both, edges_none, first_fits, last_fits}
use Rattle.be_descent.proofs.part.common.Goals as goal
use Rattle.be_descent.proofs.part.common.Goals.{After-edges-least}

least_is : (c : After-edges-least)
    → c.edges-least.result.0 ≡ int_max c.args.low (c.args.first +ℤ c.args.by)
least_is c =
    let low = c.ranges.low in
    let first = c.ranges.first in
    let by = c.ranges.by in
    let m : SFits w64 c.edges-least.result.0 = search rules in
    simp to_z-of_z at c.edges-least.ensures.least

most_is : (c : After-edges-least)
    → c.edges-least.result.1 ≡ int_min c.args.high (c.args.last +ℤ c.args.by)
most_is c =
    let high = c.ranges.high in
    let end = c.ranges.last in
    let by = c.ranges.by in
    let n : SFits w64 c.edges-least.result.1 = search rules in
    simp to_z-of_z at c.edges-least.ensures.most

least_fits : (c : After-edges-least) → c.edges-least.result.0 ≤ℤ c.edges-least.result.1
    → SFits w16 c.edges-least.result.0
least_fits c =
    first_fits c.args.low c.args.high c.args.first c.args.last c.args.by c.edges-least.result.0
    c.edges-least.result.1 c.ranges.low c.ranges.high (least_is c) (most_is c)

most_fits : (c : After-edges-least) → c.edges-least.result.0 ≤ℤ c.edges-least.result.1
    → SFits w16 c.edges-least.result.1
most_fits c =
    last_fits c.args.low c.args.high c.args.first c.args.last c.args.by c.edges-least.result.0
    c.edges-least.result.1 c.ranges.low c.ranges.high (least_is c) (most_is c)

pub overflow_cast-result : goal.overflow_cast-result
overflow_cast-result c =
    let before = (goal.at.overflow_cast-result c).After-edges-least in
    let m : SFits w64 c.edges-least.result.0 = search rules in
    let n : SFits w64 c.edges-least.result.1 = search rules in
    let test = simp to_z-of_z at c.if-least-most.true in
    simp to_z-of_z (least_fits before (omega (arith, ints)))

pub overflow_cast-result-then-least-most : goal.overflow_cast-result-then-least-most
overflow_cast-result-then-least-most c =
    let before = (goal.at.overflow_cast-result-then-least-most c).After-edges-least in
    let m : SFits w64 c.edges-least.result.0 = search rules in
    let n : SFits w64 c.edges-least.result.1 = search rules in
    let test = simp to_z-of_z at c.if-least-most.true in
    simp to_z-of_z (most_fits before (omega (arith, ints)))

pub returns-then-least-most-clause-order : goal.returns-then-least-most-clause-order
returns-then-least-most-clause-order c =
    let before = (goal.at.returns-then-least-most-clause-order c).After-edges-least in
    let m : SFits w64 c.edges-least.result.0 = search rules in
    let n : SFits w64 c.edges-least.result.1 = search rules in
    let test = simp to_z-of_z at c.if-least-most.true in
    let order : c.edges-least.result.0 ≤ℤ c.edges-least.result.1 = omega (arith, ints) in
    let a = least_fits before order in
    let b = most_fits before order in
    simp to_z-of_z order

pub returns-then-least-most-clause-both : goal.returns-then-least-most-clause-both
returns-then-least-most-clause-both c =
    let before = (goal.at.returns-then-least-most-clause-both c).After-edges-least in
    let low = c.ranges.low in
    let high = c.ranges.high in
    let first = c.ranges.first in
    let end = c.ranges.last in
    let by = c.ranges.by in
    let m : SFits w64 c.edges-least.result.0 = search rules in
    let n : SFits w64 c.edges-least.result.1 = search rules in
    let test = simp to_z-of_z at c.if-least-most.true in
    let order : c.edges-least.result.0 ≤ℤ c.edges-least.result.1 = omega (arith, ints) in
    let a = least_fits before order in
    let b = most_fits before order in
    λ z. simp to_z-of_z (edges_both c.args.low c.args.high c.args.first c.args.last c.args.by
    c.edges-least.result.0 c.edges-least.result.1 z (least_is before) (most_is before))

pub returns-else-least-most-clause-none : goal.returns-else-least-most-clause-none
returns-else-least-most-clause-none c =
    let before = (goal.at.returns-else-least-most-clause-none c).After-edges-least in
    let m : SFits w64 c.edges-least.result.0 = search rules in
    let n : SFits w64 c.edges-least.result.1 = search rules in
    let test = simp to_z-of_z at c.if-least-most.false in
    let behind : c.edges-least.result.1 <ℤ c.edges-least.result.0 = omega (arith, ints) in
    λ z. edges_none c.args.low c.args.high c.args.first c.args.last c.args.by c.edges-least.result.0
    c.edges-least.result.1 z (least_is before) (most_is before) behind
