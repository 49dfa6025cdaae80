use Rattle.std.proofs.Common.{rules, arith, SFits, w16, to_z, of_z}
use Rattle.std.proofs.lemmas.Int.{ints, clamps}
use Rattle.be_region.proofs.MergeLemmas.{met_one, met_other, met_order, met_order_other}
use Rattle.be_region.proofs.merge.meeting_of.Goals as goal

pub returns-then-rect-other_rect-clause-order : goal.returns-then-rect-other_rect-clause-order
returns-then-rect-other_rect-clause-order c =
    let r = c.in_ok-rect.rect.now in
    let s = c.in_ok-other_rect.other_rect.now in
    let f : SFits w16 r.left = search rules in
    let g : SFits w16 r.right = search rules in
    let h : SFits w16 s.left = search rules in
    let k : SFits w16 s.right = search rules in
    let value = c.max-left.ensures.value in
    let t = c.if-rect-other_rect.true in
    met_order c.args.one.now c.args.other.now r s c.in_ok-rect.one_rest.now c.in_ok-other_rect.other_rest.now (to_z w16 (of_z w16 c.max-left.result)) (to_z w16 (of_z w16 r.right)) c.in_ok-rect.ensures.cases.0 c.in_ok-other_rect.ensures.cases.0 c.requires.one c.requires.other (omega (arith, ints)) (omega (arith, ints, clamps)) (omega (arith, ints)) (omega (arith, ints))

pub returns-then-rect-other_rect-clause-columns : goal.returns-then-rect-other_rect-clause-columns
returns-then-rect-other_rect-clause-columns c =
    let r = c.in_ok-rect.rect.now in
    let s = c.in_ok-other_rect.other_rect.now in
    let f : SFits w16 r.left = search rules in
    let g : SFits w16 r.right = search rules in
    let h : SFits w16 s.left = search rules in
    let k : SFits w16 s.right = search rules in
    let value = c.max-left.ensures.value in
    let t = c.if-rect-other_rect.true in
    met_one c.args.one.now c.args.other.now r s c.in_ok-rect.one_rest.now c.in_ok-other_rect.other_rest.now _ _ c.in_ok-rect.ensures.cases.0 c.in_ok-other_rect.ensures.cases.0 c.requires.one c.requires.other (omega (arith, ints, clamps)) (omega (arith, ints)) (omega (arith, ints))

pub returns-clause-order : goal.returns-clause-order
returns-clause-order c =
    let r = c.in_ok-rect.rect.now in
    let s = c.in_ok-other_rect.other_rect.now in
    let f : SFits w16 r.left = search rules in
    let g : SFits w16 r.right = search rules in
    let h : SFits w16 s.left = search rules in
    let k : SFits w16 s.right = search rules in
    let value = c.max-left.ensures.value in
    let t = c.if-rect-other_rect.false in
    met_order_other c.args.one.now c.args.other.now r s c.in_ok-rect.one_rest.now c.in_ok-other_rect.other_rest.now (to_z w16 (of_z w16 c.max-left.result)) (to_z w16 (of_z w16 s.right)) c.in_ok-rect.ensures.cases.0 c.in_ok-other_rect.ensures.cases.0 c.requires.one c.requires.other (omega (arith, ints)) (omega (arith, ints, clamps)) (omega (arith, ints)) (omega (arith, ints))

pub returns-clause-columns : goal.returns-clause-columns
returns-clause-columns c =
    let r = c.in_ok-rect.rect.now in
    let s = c.in_ok-other_rect.other_rect.now in
    let f : SFits w16 r.left = search rules in
    let g : SFits w16 r.right = search rules in
    let h : SFits w16 s.left = search rules in
    let k : SFits w16 s.right = search rules in
    let value = c.max-left.ensures.value in
    let t = c.if-rect-other_rect.false in
    met_other c.args.one.now c.args.other.now r s c.in_ok-rect.one_rest.now c.in_ok-other_rect.other_rest.now _ _ c.in_ok-rect.ensures.cases.0 c.in_ok-other_rect.ensures.cases.0 c.requires.one c.requires.other (omega (arith, ints, clamps)) (omega (arith, ints)) (omega (arith, ints))
