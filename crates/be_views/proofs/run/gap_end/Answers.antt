use Rattle.std.proofs.Common.{rules, SFits, w32, sym, ◌∙◌}
use Rattle.std.proofs.lemmas.Int.{to_z-of_z}
use Rattle.std.proofs.lemmas.List.{take_all}
use Rattle.be_views.proofs.RunLemmas.{run_passes, run_narrows, free_frame}
use Rattle.be_views.proofs.run.gap_end.Goals as goal
use Rattle.be_views.proofs.run.gap_end.Goals.{then-lies_in, else-lies_in}

pub loop-view-preserved : goal.loop-view-preserved
loop-view-preserved c =
    let end = c.ranges.end in
    let x : SFits w32 c.args.place.0 = search rules in
    let y : SFits w32 c.args.place.1 = search rules in
    let so_far = simp to_z-of_z at c.loop-view.invariant in
    let read = c.view.view_is ∙ c.view-item.is in
    elim c.if-lies_in.branch [ then-lies_in w ↦ let lies = sym c.lies_in.ensures ∙ w.if-lies_in.true in let m : SFits w32 w.frame_gap_end-last.result = search rules in let run = w.frame_gap_end-last.ensures in rw w.last-is (simp to_z-of_z (run_narrows c.args.views.now c.loop-view.view-index c.args.v c.args.place.0 c.args.place.1 c.args.end _ w.frame_gap_end-last.result _ c.view-item.result c.loop-view-test.true read lies c.requires.none (free_frame c.args.views.now c.loop-view.view-index c.args.v c.args.place.0 c.args.place.1 _ c.view-item.result c.loop-view-test.true read lies c.requires.none) so_far run)) | else-lies_in w ↦ rw w.last-is (simp to_z-of_z (run_passes c.args.views.now c.loop-view.view-index c.args.v c.args.place.0 c.args.place.1 c.args.end _ _ c.view-item.result c.loop-view-test.true read (sym c.lies_in.ensures ∙ w.if-lies_in.false) so_far)) ]

pub returns : goal.returns
returns c =
    let end = c.ranges.end in
    let so_far = simp to_z-of_z at c.loop-view.invariant in
    rw (take_all c.loop-view.view-index c.args.views.now c.loop-view-test.false) at so_far
