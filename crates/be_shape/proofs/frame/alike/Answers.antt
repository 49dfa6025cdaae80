use Rattle.std.proofs.Common.{SFits, w16, w32, sym, ◌∙◌, arith, rules}
use Rattle.std.proofs.lemmas.Int.{to_z-of_z, ints, clamps}
use Rattle.be_shape.proofs.FrameLemmas.{frame_alike}
use Rattle.be_shape.proofs.frame.alike.Goals as goal

pub returns-clause-forward : goal.returns-clause-forward
returns-clause-forward c =
    let h : SFits w32 c.args.y = c.ranges.y in
    let a : SFits w32 c.alike.result = search rules in
    let b : SFits w32 c.alike-2.result = search rules in
    let d : SFits w32 c.alike-3.result = search rules in
    let m : SFits w32 c.min.result = search rules in
    let n : SFits w32 c.min-2.result = search rules in
    let one = simp to_z-of_z at c.alike.ensures.forward in
    let two = simp to_z-of_z at c.alike-2.ensures.forward in
    let three = simp to_z-of_z at c.alike-3.ensures.forward in
    let v = simp to_z-of_z at c.min.ensures.value in
    let w = simp to_z-of_z at c.min-2.ensures.value in
    simp to_z-of_z (omega (arith, ints, clamps))

pub returns-clause-same : goal.returns-clause-same
returns-clause-same c =
    let h : SFits w32 c.args.y = c.ranges.y in
    let f1 : SFits w16 c.args.rect.top = search rules in
    let f3 : SFits w16 c.args.rect.bottom = search rules in
    let a : SFits w32 c.alike.result = search rules in
    let b : SFits w32 c.alike-2.result = search rules in
    let d : SFits w32 c.alike-3.result = search rules in
    let m : SFits w32 c.min.result = search rules in
    let n : SFits w32 c.min-2.result = search rules in
    let v = simp to_z-of_z at c.min.ensures.value in
    let w = simp to_z-of_z at c.min-2.ensures.value in
    let rows = c.in-Some.ensures.some in
    let one = simp to_z-of_z at c.alike.ensures.same in
    let two = simp to_z-of_z at c.alike-2.ensures.same in
    let three = simp to_z-of_z at c.alike-3.ensures.same in
    let top = simp to_z-of_z at c.swept-top.ensures.all in
    let bottom = simp to_z-of_z at c.swept-bottom.ensures.all in
    let y = c.args.y in
    simp to_z-of_z (λ x z from to.
    frame_alike c.args.rect c.args.pen y z rows.across rows.down
    (sym (rows.all z) ∙ one z from (omega (arith, ints, clamps)) ∙ rows.all y)
    (sym (top z) ∙ two z from (omega (arith, ints, clamps)) ∙ top y)
    (sym (bottom z) ∙ three z from (omega (arith, ints, clamps)) ∙ bottom y)
    x)
