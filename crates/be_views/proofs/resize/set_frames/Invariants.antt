use Rattle.std.proofs.Common.{◌≡◌, ◌++◌, take, drop}
use Rattle.be_views.specs.Resizing.{with_frames}
use Rattle.be_views.proofs.resize.set_frames.Given as goal

abbrev pub invariant-loop-k : goal.invariant-loop-k
invariant-loop-k l = l.views ≡ with_frames (take l.k l.initial.views) l.frames ++ drop l.k l.initial.views
