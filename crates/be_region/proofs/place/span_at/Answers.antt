use Rattle.std.proofs.Common.{rules, ◌<◌, ◌≤◌, length, SFits, w16, sym, arith}
use Rattle.std.proofs.lemmas.Int.{ints, to_z-of_z}
use Rattle.std.proofs.lemmas.Bool.{ltb-true, ltb-false}
use Rattle.be_region.proofs.PlaceLemmas.{IsPlace, none_at_end, none_at_row, answer_gap, span_found}
use Rattle.be_region.proofs.place.span_at.Goals as goal

pub returns-in_default-clause-none : goal.returns-in_default-clause-none
returns-in_default-clause-none c =
    let x = c.ranges.x in
    let y = c.ranges.y in
    let p = simp to_z-of_z at c.place_of-place.ensures in
    let end : length c.args.rects.now ≤ c.place_of-place.result = ltb-false c.place_of-place.result (length c.args.rects.now) (sym c.in_default.ensures.lookup.0) in
    none_at_end c.args.rects.now c.place_of-place.result c.args.x c.args.y record { within = p.within; passed = p.passed; ahead = p.ahead } end c.args.x (omega (arith, ints))

pub returns-then-y-from-clause-none : goal.returns-then-y-from-clause-none
returns-then-y-from-clause-none c =
    let x = c.ranges.x in
    let y = c.ranges.y in
    let p = simp to_z-of_z at c.place_of-place.ensures in
    let place : IsPlace c.args.rects.now c.place_of-place.result c.args.x c.args.y = record { within = p.within; passed = p.passed; ahead = p.ahead } in
    let f : SFits w16 c.in-Some.rect.now.top = search rules in
    let there : c.place_of-place.result < length c.args.rects.now = ltb-true c.place_of-place.result (length c.args.rects.now) (sym c.in-Some.ensures.lookup.0) in
    let t = c.if-y-from.true in
    none_at_row c.args.rects.now c.place_of-place.result c.args.x c.args.y c.in-Some.rect.now c.requires place there c.in-Some.ensures.lookup.1 (omega (arith, ints)) c.args.x (omega (arith, ints))

pub returns-then-x-from-clause-none : goal.returns-then-x-from-clause-none
returns-then-x-from-clause-none c =
    let x = c.ranges.x in
    let y = c.ranges.y in
    let p = simp to_z-of_z at c.place_of-place.ensures in
    let place : IsPlace c.args.rects.now c.place_of-place.result c.args.x c.args.y = record { within = p.within; passed = p.passed; ahead = p.ahead } in
    let f : SFits w16 c.in-Some.rect.now.top = search rules in
    let there : c.place_of-place.result < length c.args.rects.now = ltb-true c.place_of-place.result (length c.args.rects.now) (sym c.in-Some.ensures.lookup.0) in
    let g : SFits w16 c.in-Some.rect.now.left = search rules in
    let t = c.if-y-from.false in
    let u = c.if-x-from.true in
    sym (answer_gap c.args.rects.now c.place_of-place.result c.args.x c.args.y c.in-Some.rect.now c.requires place there c.in-Some.ensures.lookup.1 (omega (arith, ints)) (omega (arith, ints)))

pub returns-clause-some : goal.returns-clause-some
returns-clause-some c =
    let x = c.ranges.x in
    let y = c.ranges.y in
    let p = simp to_z-of_z at c.place_of-place.ensures in
    let place : IsPlace c.args.rects.now c.place_of-place.result c.args.x c.args.y = record { within = p.within; passed = p.passed; ahead = p.ahead } in
    let f : SFits w16 c.in-Some.rect.now.top = search rules in
    let there : c.place_of-place.result < length c.args.rects.now = ltb-true c.place_of-place.result (length c.args.rects.now) (sym c.in-Some.ensures.lookup.0) in
    let g : SFits w16 c.in-Some.rect.now.left = search rules in
    let t = c.if-y-from.false in
    let u = c.if-x-from.false in
    span_found c.args.rects.now c.place_of-place.result c.args.x c.args.y c.in-Some.rect.now c.requires place there c.in-Some.ensures.lookup.1 (omega (arith, ints)) (omega (arith, ints))
