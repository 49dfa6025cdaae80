use Rattle.std.proofs.Common.{rules, arith, SFits, w32}
use Rattle.std.proofs.lemmas.Int.{ints, to_z-of_z}
use Rattle.be_region.proofs.MergeLemmas.{cut_first, cut_next, cut_have, cut_apart}
use Rattle.be_region.proofs.merge.subtract.Goals as goal

pub rects-init : goal.rects-init
rects-init c =
    let f : SFits w32 c.first_left-left.result = search rules in
    let column = c.first_left-left.ensures.column in
    let low = c.first_left-left.ensures.low in
    cut_first c.args.one.now c.args.other.now c.clear.new.self.items _ c.clear.ensures.items c.requires.one c.requires.other (omega (arith, ints)) (omega (arith, ints))

pub rects-preserved : goal.rects-preserved
rects-preserved c =
    let next = c.in-Some.next in
    let e = c.in-Some.ensures in
    let p = c.in_ok-push_some.ensures in
    let f : SFits w32 next.right = search rules in
    let g : SFits w32 next.left = search rules in
    let r = to_z-of_z w32 next.right f in
    rw (to_z-of_z w32 next.left g) (cut_next c.args.one.now c.args.other.now c.rects.spans.items c.push_some.new.spans.items _ next.right next.left c.rects.one.now c.rects.other.now next.one.now next.other.now c.rects.invariant e.lines e.range.1 e.left e.order e.columns (rw r at p.apart) (rw r at p.columns))

pub returns-clause-apart : goal.returns-clause-apart
returns-clause-apart c = cut_apart c.args.one.now c.args.other.now c.rects.spans.items c.rects.one.now _ c.rects.other.now c.rects.invariant

pub returns-clause-columns : goal.returns-clause-columns
returns-clause-columns c = cut_have c.args.one.now c.args.other.now c.rects.spans.items c.rects.one.now _ c.rects.other.now c.rects.invariant c.in_default.ensures.none
