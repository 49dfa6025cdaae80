use Rattle.std.proofs.Common.{rules, SFits, w16, w32, inl, inr, sym, ◌∙◌, ap, arith}
use Rattle.std.specs.Int.{int_min}
use Rattle.std.proofs.lemmas.Int.{to_z-of_z, ints}
use Rattle.be_views.proofs.RunLemmas.{gap_before, none_ahead}
use Rattle.be_views.proofs.run.frame_gap_end.Goals as goal
use Rattle.be_views.proofs.run.frame_gap_end.Goals.{else-place-left-via-then-place-left+then-frame+else-is_between, else-place-left-via-then-place-left+else-frame, else-place-left-via-else-place-left}

pub returns-then-is_between : goal.returns-then-is_between
returns-then-is_between c =
    let end = c.ranges.end in
    let l : SFits w16 c.args.frame.left = search rules in
    let r : SFits w16 c.args.frame.right = search rules in
    let t : SFits w16 c.args.frame.top = search rules in
    let b : SFits w16 c.args.frame.bottom = search rules in
    let x : SFits w32 c.args.place.0 = search rules in
    let y : SFits w32 c.args.place.1 = search rules in
    let m : SFits w32 c.min.result = search rules in
    let left = simp to_z-of_z at c.from-left.ensures in
    let before = simp to_z-of_z at c.if-place-left.true in
    let across = simp to_z-of_z at c.if-frame.true in
    let row = simp to_z-of_z at c.if-is_between.ensures in
    let least = simp to_z-of_z at c.min.ensures.value in
    simp to_z-of_z (gap_before c.args.frame c.args.place.0 c.args.place.1 c.args.end c.min.result (omega (arith, ints)) (omega (arith, ints)) (sym row) c.requires.forward (least ∙ ap (int_min c.args.end) (omega (arith, ints))))

pub returns-else-place-left : goal.returns-else-place-left
returns-else-place-left c =
    let end = c.ranges.end in
    let l : SFits w16 c.args.frame.left = search rules in
    let r : SFits w16 c.args.frame.right = search rules in
    let t : SFits w16 c.args.frame.top = search rules in
    let b : SFits w16 c.args.frame.bottom = search rules in
    let x : SFits w32 c.args.place.0 = search rules in
    let y : SFits w32 c.args.place.1 = search rules in
    let left = simp to_z-of_z at c.from-left.ensures in
    let forward = c.requires.forward in
    let none = c.requires.none in
    simp to_z-of_z (none_ahead c.args.frame c.args.place.0 c.args.place.1 c.args.end (elim c.else-place-left.branch [ else-place-left-via-then-place-left+then-frame+else-is_between w ↦ inr (inr (sym (simp to_z-of_z at w.if-is_between.ensures))) | else-place-left-via-then-place-left+else-frame w ↦ let across = w.if-frame.false in inr (inl (omega (arith, ints))) | else-place-left-via-else-place-left w ↦ let before = w.if-place-left.false in inl (omega (arith, ints)) ]) none forward)
