use Rattle.std.proofs.Common.{rules, SFits, w32, length}
use Rattle.std.proofs.lemmas.Int.{to_z-of_z}
use Rattle.be_views.proofs.ChildLemmas.{next_below}
use Rattle.be_views.proofs.tree.view_below.Goals as goal

pub loop-step-preserved : goal.loop-step-preserved
loop-step-preserved c =
    let f : SFits w32 c.loop-step.place.0 = search rules in
    let g : SFits w32 c.loop-step.place.1 = search rules in
    let child = simp to_z-of_z at c.in-Some.ensures.child in
    next_below (length c.args.views.now) c.loop-step._step c.args.views.now c.loop-step.view c.loop-step.place.0 c.loop-step.place.1 (c.in-Some.child, c.in-Some.frame) c.within-place.result.0 c.within-place.result.1 _ c.loop-step-test.true child c.within-place.ensures.across c.within-place.ensures.down c.loop-step.invariant
