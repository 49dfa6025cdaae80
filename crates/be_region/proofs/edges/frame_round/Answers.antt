use Rattle.be_region.proofs.FrameLemmas.{frame_of_one, frame_step}
use Rattle.be_region.proofs.CountLemmas.{no_rect}
use Rattle.be_region.proofs.edges.frame_round.Goals as goal

pub loop-rect-init : goal.loop-rect-init
loop-rect-init c = frame_of_one c.args.first c.requires.first

pub loop-rect-preserved : goal.loop-rect-preserved
loop-rect-preserved c =
    frame_step c.loop-rect.frame _ c.args.first c.args.others.now c.loop-rect.rect-index no_rect c.loop-rect-test.true c.requires.others c.around-frame.ensures c.loop-rect.invariant
