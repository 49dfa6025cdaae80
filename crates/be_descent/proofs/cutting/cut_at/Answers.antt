use Rattle.std.proofs.Common.{pos, ◌+ℤ◌, refl, SFits, w16, rules, arith}
use Rattle.std.proofs.lemmas.Int.{to_z-of_z, ints}
use Rattle.be_span.proofs.GridLemmas.{in_from, has_from}
use Rattle.be_descent.proofs.CutLemmas.{apart_across, apart_down, apart_turned, halves_turned}
use Rattle.be_descent.proofs.cutting.cut_at.Goals as goal

pub returns-then-area-frame : goal.returns-then-area-frame
returns-then-area-frame c =
    let ft : SFits w16 c.args.frame.top = search rules in
    let low = simp to_z-of_z at c.rows_at.ensures.above in
    record {
      halves = c.rows_at.ensures.halves;
      free = apart_down c.rows_at.result.0 c.args.frame low;
    }

pub rows_at-requires-then-frame-area-clause-below :
    goal.rows_at-requires-then-frame-area-clause-below
rows_at-requires-then-frame-area-clause-below c =
    let meet = c.if-are_apart.ensures.meet refl in
    let at : SFits w16 c.args.area.top = search rules in
    let ab : SFits w16 c.args.area.bottom = search rules in
    let fb : SFits w16 c.args.frame.bottom = search rules in
    let low = meet.top in
    let test = simp to_z-of_z at c.if-frame-area.true in
    let edge : SFits w16 (c.args.frame.bottom +ℤ pos 1) = search rules in
    simp to_z-of_z (omega (arith, ints))

pub returns-then-frame-area : goal.returns-then-frame-area
returns-then-frame-area c =
    let ab : SFits w16 c.args.area.bottom = search rules in
    let fb : SFits w16 c.args.frame.bottom = search rules in
    let test = simp to_z-of_z at c.if-frame-area.true in
    let edge : SFits w16 (c.args.frame.bottom +ℤ pos 1) = search rules in
    let low = simp to_z-of_z at c.rows_at-then-frame-area.ensures.rest in
    let rest = c.rows_at-then-frame-area.result.0 in
    let below = c.rows_at-then-frame-area.result.1 in
    record {
      halves = halves_turned c.args.area rest below c.rows_at-then-frame-area.ensures.halves;
      free = apart_turned c.args.frame below (apart_down c.args.frame below (omega (arith, ints)));
    }

pub columns_at-requires-clause-inside : goal.columns_at-requires-clause-inside
columns_at-requires-clause-inside c =
    let meet = c.if-are_apart.ensures.meet refl in
    let fl : SFits w16 c.args.frame.left = search rules in
    let low = meet.right in
    simp to_z-of_z low

pub returns-then-area-frame-2 : goal.returns-then-area-frame-2
returns-then-area-frame-2 c =
    let fl : SFits w16 c.args.frame.left = search rules in
    let low = simp to_z-of_z at c.columns_at.ensures.before in
    record {
      halves = c.columns_at.ensures.halves;
      free = apart_across c.columns_at.result.0 c.args.frame low;
    }

pub columns_at-requires-then-frame-area-2-clause-behind :
    goal.columns_at-requires-then-frame-area-2-clause-behind
columns_at-requires-then-frame-area-2-clause-behind c =
    let meet = c.if-are_apart.ensures.meet refl in
    let al : SFits w16 c.args.area.left = search rules in
    let ar : SFits w16 c.args.area.right = search rules in
    let fr : SFits w16 c.args.frame.right = search rules in
    let low = meet.left in
    let test = simp to_z-of_z at c.if-frame-area-2.true in
    let edge : SFits w16 (c.args.frame.right +ℤ pos 1) = search rules in
    simp to_z-of_z (omega (arith, ints))

pub returns-then-frame-area-2 : goal.returns-then-frame-area-2
returns-then-frame-area-2 c =
    let ar : SFits w16 c.args.area.right = search rules in
    let fr : SFits w16 c.args.frame.right = search rules in
    let test = simp to_z-of_z at c.if-frame-area-2.true in
    let edge : SFits w16 (c.args.frame.right +ℤ pos 1) = search rules in
    let low = simp to_z-of_z at c.columns_at-then-frame-area-2.ensures.rest in
    let rest = c.columns_at-then-frame-area-2.result.0 in
    let right = c.columns_at-then-frame-area-2.result.1 in
    record {
      halves = halves_turned c.args.area rest right c.columns_at-then-frame-area-2.ensures.halves;
      free = apart_turned c.args.frame right
          (apart_across c.args.frame right (omega (arith, ints)));
    }

pub returns : goal.returns
returns c x y has =
    let al : SFits w16 c.args.area.left = search rules in
    let ar : SFits w16 c.args.area.right = search rules in
    let at : SFits w16 c.args.area.top = search rules in
    let ab : SFits w16 c.args.area.bottom = search rules in
    let fl : SFits w16 c.args.frame.left = search rules in
    let fr : SFits w16 c.args.frame.right = search rules in
    let ft : SFits w16 c.args.frame.top = search rules in
    let fb : SFits w16 c.args.frame.bottom = search rules in
    let t0 = simp to_z-of_z at c.if-area-frame.false in
    let t1 = simp to_z-of_z at c.if-frame-area.false in
    let t2 = simp to_z-of_z at c.if-area-frame-2.false in
    let t3 = simp to_z-of_z at c.if-frame-area-2.false in
    let i = in_from c.args.area x y has in
    let l = i.left in let r = i.right in let t = i.top in let b = i.bottom in
    has_from c.args.frame x y record {
      left = omega (arith, ints);
      right = omega (arith, ints);
      top = omega (arith, ints);
      bottom = omega (arith, ints);
    }
