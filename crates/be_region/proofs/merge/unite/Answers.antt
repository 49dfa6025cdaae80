use Rattle.be_region.proofs.MergeLemmas.{none_apart, united_first, united_next, united_apart}
use Rattle.be_region.proofs.merge.unite.Goals as goal

pub returns-in_default-clause-apart : goal.returns-in_default-clause-apart
returns-in_default-clause-apart c = none_apart c.clear.new.self.items c.clear.ensures.items

pub rects-init : goal.rects-init
rects-init c =
    let e = c.in-Some.ensures in
    united_first c.args.one.now c.args.other.now c.clear.new.self.items c.in-Some.rest.span c.in-Some.rest.one.now c.in-Some.rest.other.now c.clear.ensures.items e.full e.lines e.order e.columns

pub rects-preserved : goal.rects-preserved
rects-preserved c =
    let e = c.in-Some-first_of.ensures in
    let g = c.in_ok-last.ensures in
    united_next c.args.one.now c.args.other.now c.rects.spans.items c.grown.new.spans.items c.rects.last c.in_ok-last.last c.in-Some-first_of.next.span c.rects.rest.one.now c.rects.rest.other.now c.in-Some-first_of.next.one.now c.in-Some-first_of.next.other.now c.rects.invariant g.full g.left g.apart g.columns e.lines e.order e.columns

pub returns-clause-apart : goal.returns-clause-apart
returns-clause-apart c =
    united_apart c.args.one.now c.args.other.now c.rects.spans.items c.push.new.self.items c.rects.last c.rects.rest.one.now c.rects.rest.other.now c.rects.invariant c.in_ok-push.ensures.ok
