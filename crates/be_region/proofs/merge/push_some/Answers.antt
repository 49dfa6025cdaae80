use Rattle.std.proofs.Common.{arith}
use Rattle.std.proofs.lemmas.Int.{ints}
use Rattle.be_region.specs.Spans.{spans_have}
use Rattle.be_region.proofs.SpanLemmas.{within-wider}
use Rattle.be_region.proofs.MergeLemmas.{pushed_some_within, pushed_none}
use Rattle.be_region.proofs.merge.push_some.Goals as goal

pub returns-in_ok-push-clause-apart : goal.returns-in_ok-push-clause-apart
returns-in_ok-push-clause-apart c =
    let f = c.ranges.left in
    let g = c.ranges.right in
    let h = c.requires.low in
    let k = c.requires.high in
    let t = c.if-left-right.true in
    pushed_some_within c.args.spans.now.items c.push.new.self.items _ c.args.left c.args.right c.in_ok-push.ensures.ok (omega (arith, ints)) (omega (arith, ints)) (omega (arith, ints))

pub returns-else-left-right-clause-apart : goal.returns-else-left-right-clause-apart
returns-else-left-right-clause-apart c = λ low high h k m.
    within-wider low c.args.spans.now.items c.args.left high h k

pub returns-else-left-right-clause-columns : goal.returns-else-left-right-clause-columns
returns-else-left-right-clause-columns c = λ x.
    let t = c.if-left-right.false in
    let f = c.ranges.left in
    let g = c.ranges.right in
    pushed_none (spans_have c.args.spans.now.items x) c.args.left c.args.right x (omega (arith, ints))
