use Rattle.be_views.specs.Resizing.{frames_after, root_frame}
use Rattle.be_views.proofs.ResizeLemmas.{AreFramesTo}
use Rattle.be_views.proofs.resize.frames_after.Given as goal

abbrev pub invariant-loop-k : goal.invariant-loop-k
invariant-loop-k l = AreFramesTo l.k l.views (root_frame l.fn.width l.fn.height) l.frames (frames_after l.views l.fn.width l.fn.height)
