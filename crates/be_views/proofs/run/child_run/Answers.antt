use Rattle.std.proofs.Common.{rules, SFits, w16, w32, ap, ◌∙◌}
use Rattle.std.specs.Int.{int_min}
use Rattle.std.proofs.lemmas.Int.{to_z-of_z}
use Rattle.be_views.proofs.RunLemmas.{room_right, free_behind, free_alone, alone_run, front_run, right_most}
use Rattle.be_views.proofs.run.child_run.Goals as goal

pub gap_end-last-requires-clause-forward : goal.gap_end-last-requires-clause-forward
gap_end-last-requires-clause-forward c =
    let end = c.ranges.end in
    let r : SFits w16 c.in-Some.frame.right = search rules in
    let m : SFits w32 c.min-end.result = search rules in
    let x : SFits w32 c.args.place.0 = search rules in
    let y : SFits w32 c.args.place.1 = search rules in
    let k : SFits w32 c.from.result = search rules in
    let right = simp to_z-of_z at c.from.ensures in
    let least = simp to_z-of_z at c.min-end.ensures.value in
    let holds = simp to_z-of_z at c.in-Some.ensures.holds in
    let room = room_right c.in-Some.frame c.args.place.0 c.args.place.1 c.args.end holds c.requires in
    simp to_z-of_z (rw (least, right) room)

pub gap_end-last-requires-clause-none : goal.gap_end-last-requires-clause-none
gap_end-last-requires-clause-none c =
    let x : SFits w32 c.args.place.0 = search rules in
    let y : SFits w32 c.args.place.1 = search rules in
    let child = simp to_z-of_z at c.in-Some.ensures.child in
    free_behind c.args.views.now c.args.v c.args.place.0 c.args.place.1 (c.in-Some.child, c.in-Some.frame) child

pub gap_end-last-requires-in-None-clause-none : goal.gap_end-last-requires-in-None-clause-none
gap_end-last-requires-in-None-clause-none c =
    let x : SFits w32 c.args.place.0 = search rules in
    let y : SFits w32 c.args.place.1 = search rules in
    let child = simp to_z-of_z at c.in-None.ensures.child in
    free_alone c.args.views.now c.args.v c.args.place.0 c.args.place.1 child

pub returns-in-Some-clause-run : goal.returns-in-Some-clause-run
returns-in-Some-clause-run c =
    let end = c.ranges.end in
    let r : SFits w16 c.in-Some.frame.right = search rules in
    let m : SFits w32 c.min-end.result = search rules in
    let l : SFits w32 c.gap_end-last.result = search rules in
    let x : SFits w32 c.args.place.0 = search rules in
    let y : SFits w32 c.args.place.1 = search rules in
    let k : SFits w32 c.from.result = search rules in
    let right = simp to_z-of_z at c.from.ensures in
    let least = simp to_z-of_z at c.min-end.ensures.value in
    let child = simp to_z-of_z at c.in-Some.ensures.child in
    let run = simp to_z-of_z at c.gap_end-last.ensures in
    simp to_z-of_z (front_run c.args.views.now c.args.v c.args.place.0 c.args.place.1 c.args.end c.min-end.result c.gap_end-last.result (c.in-Some.child, c.in-Some.frame) child (least ∙ ap (int_min c.args.end) right) run)

pub returns-in-None-clause-run : goal.returns-in-None-clause-run
returns-in-None-clause-run c =
    let end = c.ranges.end in
    let l : SFits w32 c.gap_end-last-in-None.result = search rules in
    let x : SFits w32 c.args.place.0 = search rules in
    let y : SFits w32 c.args.place.1 = search rules in
    let child = simp to_z-of_z at c.in-None.ensures.child in
    let run = simp to_z-of_z at c.gap_end-last-in-None.ensures in
    simp to_z-of_z (alone_run c.args.views.now c.args.v c.args.place.0 c.args.place.1 c.args.end c.gap_end-last-in-None.result child run)

pub returns-in-Some-clause-right : goal.returns-in-Some-clause-right
returns-in-Some-clause-right c =
    let end = c.ranges.end in
    let r : SFits w16 c.in-Some.frame.right = search rules in
    let m : SFits w32 c.min-end.result = search rules in
    let l : SFits w32 c.gap_end-last.result = search rules in
    let k : SFits w32 c.from.result = search rules in
    let right = simp to_z-of_z at c.from.ensures in
    let least = simp to_z-of_z at c.min-end.ensures.value in
    let within = simp to_z-of_z at c.gap_end-last.ensures.within in
    rw c.in-Some.is (simp to_z-of_z (right_most c.args.end c.min-end.result c.gap_end-last.result c.in-Some.frame.right within (least ∙ ap (int_min c.args.end) right)))
