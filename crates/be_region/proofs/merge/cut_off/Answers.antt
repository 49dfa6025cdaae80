use Rattle.std.proofs.Common.{rules, arith, SFits, w16, w32}
use Rattle.std.proofs.lemmas.Int.{ints, clamps}
use Rattle.be_region.proofs.MergeLemmas.{cut_none, cut_rest, cut_hole, rest_line, rest_behind, first_full, last_edge, edges_apart}
use Rattle.be_region.proofs.merge.cut_off.Goals as goal

pub returns-in_default-clause-columns : goal.returns-in_default-clause-columns
returns-in_default-clause-columns c =
    let r = c.in_ok-rect.rect.now in
    let g : SFits w16 r.right = search rules in
    let k : SFits w32 c.first_left.result = search rules in
    let column = c.first_left.ensures.column in
    let right = c.from-right.ensures in
    cut_none c.args.one.now c.args.other.now c.args.left _ _ r c.in_ok-rect.one_rest.now c.in_ok-rect.ensures.cases.0 c.in_default.ensures.cases c.requires.one c.requires.from c.requires.to (omega (arith, ints)) (omega (arith, ints))

pub returns-then-hole-rect-clause-lines : goal.returns-then-hole-rect-clause-lines
returns-then-hole-rect-clause-lines c =
    (c.requires.one, rest_line c.args.other.now c.in-Some.hole.now c.in-Some.other_rest.now c.in-Some.ensures.cases.0 c.requires.other)

pub returns-then-hole-rect-clause-left : goal.returns-then-hole-rect-clause-left
returns-then-hole-rect-clause-left c =
    let r = c.in_ok-rect.rect.now in
    let s = c.in-Some.hole.now in
    let g : SFits w16 r.right = search rules in
    let k : SFits w16 s.right = search rules in
    let l = c.ranges.left in
    let edge = last_edge c.args.one.now r c.in_ok-rect.one_rest.now c.in_ok-rect.ensures.cases.0 in
    let from = c.requires.from in
    let to = c.requires.to in
    let value = c.max.ensures.value in
    let t = c.if-hole-rect.true in
    (omega (arith, ints, clamps), omega (arith, ints, clamps))

pub returns-then-hole-rect-clause-order : goal.returns-then-hole-rect-clause-order
returns-then-hole-rect-clause-order c =
    let s = c.in-Some.hole.now in
    let g : SFits w16 s.left = search rules in
    let k : SFits w16 s.right = search rules in
    let l = c.ranges.left in
    let full = first_full c.args.other.now s c.in-Some.other_rest.now c.in-Some.ensures.cases.0 c.requires.other in
    let value = c.max.ensures.value in
    (omega (arith, ints, clamps), omega (arith, ints, clamps))

pub returns-then-hole-rect-clause-columns : goal.returns-then-hole-rect-clause-columns
returns-then-hole-rect-clause-columns c =
    let r = c.in_ok-rect.rect.now in
    let s = c.in-Some.hole.now in
    let f : SFits w16 r.right = search rules in
    let g : SFits w16 s.left = search rules in
    let k : SFits w16 s.right = search rules in
    let l = c.ranges.left in
    let value = c.max.ensures.value in
    let t = c.if-hole-rect.true in
    cut_hole c.args.one.now c.args.other.now c.args.left _ _ r s c.in_ok-rect.one_rest.now c.in-Some.other_rest.now c.in_ok-rect.ensures.cases.0 c.in-Some.ensures.cases.0 c.requires.one c.requires.other c.requires.from (omega (arith, ints, clamps)) (omega (arith, ints)) (omega (arith, ints))

pub returns-clause-lines : goal.returns-clause-lines
returns-clause-lines c =
    (rest_line c.args.one.now c.in_ok-rect.rect.now c.in_ok-rect.one_rest.now c.in_ok-rect.ensures.cases.0 c.requires.one, c.requires.other)

pub returns-clause-left : goal.returns-clause-left
returns-clause-left c =
    let rest = c.in_ok-rect.one_rest.now in
    let k : SFits w32 c.first_left-2.result = search rules in
    let line = rest_line c.args.one.now c.in_ok-rect.rect.now rest c.in_ok-rect.ensures.cases.0 c.requires.one in
    let apart = edges_apart rest line in
    let column = c.first_left-2.ensures.column in
    (omega (arith, ints), omega (arith, ints))

pub returns-clause-order : goal.returns-clause-order
returns-clause-order c =
    let r = c.in_ok-rect.rect.now in
    let s = c.in-Some.hole.now in
    let rest = c.in_ok-rect.one_rest.now in
    let f : SFits w16 r.right = search rules in
    let g : SFits w16 s.left = search rules in
    let k : SFits w32 c.first_left-2.result = search rules in
    let behind = rest_behind c.args.one.now r rest c.in_ok-rect.ensures.cases.0 c.requires.one (omega (arith, ints)) in
    let edge = last_edge c.args.one.now r rest c.in_ok-rect.ensures.cases.0 in
    let to = c.requires.to in
    let column = c.first_left-2.ensures.column in
    let value = c.min.ensures.value in
    (omega (arith, ints, clamps), omega (arith, ints, clamps))

pub returns-clause-columns : goal.returns-clause-columns
returns-clause-columns c =
    let r = c.in_ok-rect.rect.now in
    let s = c.in-Some.hole.now in
    let f : SFits w16 r.right = search rules in
    let g : SFits w16 s.left = search rules in
    let h : SFits w16 s.right = search rules in
    let k : SFits w32 c.first_left-2.result = search rules in
    let column = c.first_left-2.ensures.column in
    let value = c.min.ensures.value in
    let t = c.if-hole-rect.false in
    cut_rest c.args.one.now c.args.other.now c.args.left _ _ r s c.in_ok-rect.one_rest.now c.in-Some.other_rest.now c.in_ok-rect.ensures.cases.0 c.in-Some.ensures.cases.0 c.requires.one c.requires.other c.requires.from c.requires.to (omega (arith, ints)) (omega (arith, ints, clamps)) (omega (arith, ints))
