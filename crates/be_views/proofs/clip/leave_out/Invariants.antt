use Rattle.std.proofs.Common.{take}
use Rattle.be_views.specs.Clips.{IsUncovered}
use Rattle.be_views.proofs.clip.leave_out.Given as goal

abbrev pub invariant-loop-view : goal.invariant-loop-view
invariant-loop-view l = IsUncovered l.region l.initial.region (take l.view-index l.views) l.v l.left l.top
