use Rattle.std.proofs.Common.{◌≡◌, take}
use Rattle.be_views.specs.Pixels.{last_child_at}
use Rattle.be_views.proofs.children.last_child_at.Given as goal

abbrev pub invariant-loop-k : goal.invariant-loop-k
invariant-loop-k l = last_child_at l.views l.v l.x l.y ≡ last_child_at (take l.k l.views) l.v l.x l.y
