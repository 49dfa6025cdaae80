use Rattle.std.proofs.Common.{sym, ◌∙◌}
use Rattle.std.proofs.lemmas.Int.{to_z-of_z}
use Rattle.std.proofs.lemmas.List.{take_all}
use Rattle.be_views.proofs.ClipLemmas.{uncovered_passes, uncovered_more}
use Rattle.be_views.proofs.clip.leave_out.Goals as goal
use Rattle.be_views.proofs.clip.leave_out.Goals.{then-lies_in+in_ok-region_of+in_ok-exclude, else-lies_in}

pub loop-view-preserved : goal.loop-view-preserved
loop-view-preserved c =
    let dx = c.ranges.left in
    let dy = c.ranges.top in
    let so_far = simp to_z-of_z at c.loop-view.invariant in
    let read = c.view.view_is ∙ c.view-item.is in
    elim c.if-lies_in.branch [ then-lies_in+in_ok-region_of+in_ok-exclude w ↦ let pixels = simp to_z-of_z at w.in_ok-region_of.ensures in rw w.region-is (simp to_z-of_z (uncovered_more w.exclude-then-lies_in.new.self c.loop-view.region c.args.region.now w.in_ok-region_of.field-0 c.args.views.now c.loop-view.view-index c.args.v c.args.left c.args.top _ c.view-item.result c.loop-view-test.true read (sym c.lies_in.ensures ∙ w.if-lies_in.true) c.requires.in_range pixels w.in_ok-exclude.ensures.ok so_far)) | else-lies_in w ↦ rw w.region-is (simp to_z-of_z (uncovered_passes c.loop-view.region c.args.region.now c.args.views.now c.loop-view.view-index c.args.v c.args.left c.args.top _ c.view-item.result c.loop-view-test.true read (sym c.lies_in.ensures ∙ w.if-lies_in.false) so_far)) ]

pub returns : goal.returns
returns c =
    let dx = c.ranges.left in
    let dy = c.ranges.top in
    let so_far = simp to_z-of_z at c.loop-view.invariant in
    rw (take_all c.loop-view.view-index c.args.views.now c.loop-view-test.false) at so_far
