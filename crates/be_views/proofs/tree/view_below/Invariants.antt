use Rattle.std.proofs.Common.{◌≡◌, ◌-◌, length}
use Rattle.be_views.specs.Pixels.{view_below}
use Rattle.be_views.proofs.tree.view_below.Given as goal

abbrev pub invariant-loop-step : goal.invariant-loop-step
invariant-loop-step l = view_below (length l.views - l._step) l.views l.view l.place.0 l.place.1 ≡ view_below (length l.views) l.views 0 l.fn.x l.fn.y
