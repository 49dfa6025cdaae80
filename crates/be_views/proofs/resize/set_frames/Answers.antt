use Rattle.be_views.proofs.ResizeLemmas.{write_more}
use Rattle.be_views.proofs.resize.set_frames.Goals as goal

pub loop-k-preserved : goal.loop-k-preserved
loop-k-preserved c =
    write_more c.args.views.now c.loop-k.views c.args.frames.now c.loop-k.k _ c.index-views-k.result _ c.loop-k-test.true c.requires c.loop-k.invariant c.view.view_is
