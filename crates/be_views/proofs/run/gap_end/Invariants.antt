use Rattle.std.proofs.Common.{take}
use Rattle.be_views.specs.Clips.{covers}
use Rattle.be_views.specs.Runs.{IsRunTo}
use Rattle.be_views.proofs.run.gap_end.Given as goal

abbrev pub invariant-loop-view : goal.invariant-loop-view
invariant-loop-view l = IsRunTo (λ z. covers (take l.view-index l.views) l.v z l.place.1) l.place.0 l.end l.last
