use Rattle.std.proofs.Common.{◌+ℤ◌, rules, SFits, w64}
use Rattle.std.proofs.lemmas.Int.{to_z-of_z}
use Rattle.be_descent.proofs.part.edges.Goals as goal

pub returns-clause-least : goal.returns-clause-least
returns-clause-least c =
    let e = c.ranges.low in
    let f = c.ranges.first in
    let by = c.ranges.by in
    let s0 : SFits w64 c.from-by.result = search rules in
    let s1 : SFits w64 c.from.result = search rules in
    let s2 : SFits w64 c.from-2.result = search rules in
    let e0 = simp to_z-of_z at c.from-by.ensures in
    let e1 = simp to_z-of_z at c.from.ensures in
    let e2 = simp to_z-of_z at c.from-2.ensures in
    let s3 : SFits w64 (c.from-2.result +ℤ c.from-by.result) = search rules in
    let s4 : SFits w64 c.max-least.result = search rules in
    simp to_z-of_z (rw (e1, e2, e0) at (simp to_z-of_z at c.max-least.ensures.value))

pub returns-clause-most : goal.returns-clause-most
returns-clause-most c =
    let e = c.ranges.high in
    let f = c.ranges.last in
    let by = c.ranges.by in
    let s0 : SFits w64 c.from-by.result = search rules in
    let s1 : SFits w64 c.from-3.result = search rules in
    let s2 : SFits w64 c.from-4.result = search rules in
    let e0 = simp to_z-of_z at c.from-by.ensures in
    let e1 = simp to_z-of_z at c.from-3.ensures in
    let e2 = simp to_z-of_z at c.from-4.ensures in
    let s3 : SFits w64 (c.from-4.result +ℤ c.from-by.result) = search rules in
    let s4 : SFits w64 c.min-most.result = search rules in
    simp to_z-of_z (rw (e1, e2, e0) at (simp to_z-of_z at c.min-most.ensures.value))
