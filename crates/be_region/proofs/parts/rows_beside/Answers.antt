use Rattle.std.proofs.Common.{rules, ◌≡◌, ◌<◌, length, get_or, SFits, w16, w32, arith}
use Rattle.std.proofs.lemmas.Int.{ints, to_z-of_z}
use Rattle.be_region.proofs.PartLemmas.{none_over, none_under}
use Rattle.be_region.proofs.parts.rows_beside.Goals as goal

pub returns-clause-above : goal.returns-clause-above
returns-clause-above c = λ x y k.
    let r = c.in_ok-first.first.now in
    let f : SFits w16 r.top = search rules in
    let g : SFits w32 c.from.result = search rules in
    let some : 0 < length c.args.rects.now = search rules in
    let at : r ≡ get_or c.args.rects.now 0 r = search rules in
    none_over c.args.rects.now r _ c.requires some at (let e = simp to_z-of_z at c.from.ensures in omega (arith, ints)) x y k

pub returns-clause-below : goal.returns-clause-below
returns-clause-below c = λ x y k.
    let r = c.in_ok-last.last.now in
    let f : SFits w16 r.bottom = search rules in
    let g : SFits w32 c.from-2.result = search rules in
    let last = c.in_ok-last.ensures.item in
    none_under c.args.rects.now r _ c.requires last.3.0 last.1 (let e = simp to_z-of_z at c.from-2.ensures in omega (arith, ints)) x y k
