use Rattle.std.proofs.Common.{rules, refl, ◌∙◌}
use Rattle.std.proofs.lemmas.Int.{to_z-of_z}
use Rattle.be_views.proofs.ResizeLemmas.{has_parent, root_step, frame_step, frame_leaves, root_fits}
use Rattle.be_views.proofs.resize.frames_after.Goals as goal
use Rattle.be_views.proofs.resize.frames_after.Goals.{in-Some+in_ok-frames, in_default}

pub returns-in_err-frames-clause-out : goal.returns-in_err-frames-clause-out
returns-in_err-frames-clause-out c =
    let f = c.ranges.width in
    let g = c.ranges.height in
    let a = simp to_z-of_z at c.loop-k.invariant in
    let h = has_parent c.args.views.now c.loop-k.k _ c.from-parent.result _ c.index-views-k.result c.index-views-parent.result c.loop-k-test.true c.requires.few c.requires.parents (c.view.view_is ∙ c.index-views-k.is) c.in-Some.is c.from-parent.ensures c.index-views-parent.is in
    let leaves = frame_leaves c.args.views.now _ c.loop-k.frames _ c.loop-k.k c.from-parent.result _ c.index-views-k.result c.index-views-parent.result _ h (c.in_err-frames.ensures.out.0 refl) a in
    (λ _. leaves, λ _. search rules)

pub loop-k-preserved : goal.loop-k-preserved
loop-k-preserved c =
    let f = c.ranges.width in
    let g = c.ranges.height in
    let a = simp to_z-of_z at c.loop-k.invariant in
    elim c.match-view.branch [ in-Some+in_ok-frames w ↦ rw w.frames-is (simp to_z-of_z (frame_step c.args.views.now _ c.loop-k.frames _ c.loop-k.k w.from-parent.result _ c.index-views-k.result w.index-views-parent.result _ w.in_ok-frames.field-0 (has_parent c.args.views.now c.loop-k.k _ w.from-parent.result _ c.index-views-k.result w.index-views-parent.result c.loop-k-test.true c.requires.few c.requires.parents (c.view.view_is ∙ c.index-views-k.is) w.in-Some.is w.from-parent.ensures w.index-views-parent.is) w.in_ok-frames.ensures.followed w.in_ok-frames.ensures.out.1 a)) | in_default w ↦ rw w.frames-is (simp to_z-of_z (root_step c.args.views.now _ c.loop-k.frames _ c.loop-k.k _ c.index-views-k.result c.loop-k-test.true c.requires.few (c.view.view_is ∙ c.index-views-k.is) w.in_default.is (root_fits c.args.width c.args.height f g) a)) ]
