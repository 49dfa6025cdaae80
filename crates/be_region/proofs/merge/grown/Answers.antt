use Rattle.std.proofs.Common.{◌≡◌, rules, arith, SFits, w16, to_z, of_z}
use Rattle.std.specs.Int.{int_max}
use Rattle.std.proofs.lemmas.Int.{ints, clamps, to_z-of_z}
use Rattle.be_geom.specs.Points.{between}
use Rattle.be_region.specs.Spans.{spans_have}
use Rattle.be_region.proofs.MergeLemmas.{pushed_within, pushed_has, grown_has}
use Rattle.be_region.proofs.merge.grown.Goals as goal

pub returns-then-from-clause-apart : goal.returns-then-from-clause-apart
returns-then-from-clause-apart c = λ low h.
    let f : SFits w16 c.args.last.right = search rules in
    let g : SFits w16 c.args.more.left = search rules in
    let t = c.if-from.true in
    pushed_within low c.args.spans.now.items c.push.new.self.items c.args.last c.args.more.left c.in_ok-push.ensures.ok h c.requires.last_full (omega (arith, ints))

pub returns-then-from-clause-columns : goal.returns-then-from-clause-columns
returns-then-from-clause-columns c = λ x.
    pushed_has c.args.spans.now.items c.push.new.self.items c.args.last (between c.args.more.left x c.args.more.right) x c.in_ok-push.ensures.ok

pub returns-clause-columns : goal.returns-clause-columns
returns-clause-columns c = λ x.
    let f : SFits w16 c.args.last.left = search rules in
    let g : SFits w16 c.args.last.right = search rules in
    let h : SFits w16 c.args.more.right = search rules in
    let k : SFits w16 c.args.more.left = search rules in
    let value = c.max.ensures.value in
    let t = c.if-from.false in
    let e : to_z w16 (of_z w16 c.max.result) ≡ int_max c.args.last.right c.args.more.right = omega (arith, ints, clamps) in
    rw (to_z-of_z w16 c.args.last.left f, e) (grown_has (spans_have c.args.spans.now.items x) c.args.last.left c.args.last.right c.args.more.left c.args.more.right x c.requires.order (omega (arith, ints)) c.requires.last_full c.requires.full)
