use Rattle.std.proofs.Common.{◌≡◌, rules, arith, SFits, w16, w32, to_z, of_z}
use Rattle.std.proofs.lemmas.Int.{ints}
use Rattle.be_region.proofs.MergeLemmas.{met_first, met_next, met_have, met_apart}
use Rattle.be_region.proofs.merge.intersect.Goals as goal

pub rects-init : goal.rects-init
rects-init c = met_first c.args.one.now c.args.other.now c.clear.new.self.items c.clear.ensures.items c.requires.one c.requires.other

pub rects-preserved : goal.rects-preserved
rects-preserved c =
    let next = c.in-Some.next in
    let e = c.in-Some.ensures in
    let p = c.in_ok-push_some.ensures in
    let f : SFits w16 next.left = search rules in
    let g : SFits w16 next.right = search rules in
    let l : to_z w32 (of_z w32 c.from.result) ≡ next.left = omega (arith, ints) in
    let r : to_z w32 (of_z w32 c.from-in-Some.result) ≡ next.right = omega (arith, ints) in
    met_next c.args.one.now c.args.other.now c.rects.spans.items c.push_some.new.spans.items next.left next.right c.rects.one.now c.rects.other.now next.one.now next.other.now c.rects.invariant e.left e.lines e.order e.columns (rw (l, r) at p.apart) (rw (l, r) at p.columns)

pub returns-clause-apart : goal.returns-clause-apart
returns-clause-apart c = met_apart c.args.one.now c.args.other.now c.rects.spans.items c.rects.one.now c.rects.other.now c.rects.invariant

pub returns-clause-columns : goal.returns-clause-columns
returns-clause-columns c = met_have c.args.one.now c.args.other.now c.rects.spans.items c.rects.one.now c.rects.other.now c.rects.invariant c.in_default.ensures.none
