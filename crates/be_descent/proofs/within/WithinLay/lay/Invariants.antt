use Rattle.std.proofs.Common.{◌≤◌, ◌-◌, length}
use Rattle.be_span.specs.Painting.{IsPainted}
use Rattle.be_descent.proofs.PaintLemmas.{painted_to}
use Rattle.be_descent.proofs.within.WithinLay.lay.Given as goal

abbrev pub invariant-loop-found : goal.invariant-loop-found
invariant-loop-found g l = record {
  within : l.place ≤ length l.fn.self.region.now;
  done : IsPainted (g.L.Lay.rule l.fn.self.next.now)
      (painted_to l.fn.self.region.now l.place l.fn.self.way l.fn.area
      (g.L.Lay.at l.fn.self.next.now)) l.fn.spans l.spans;
}

abbrev pub decreases-loop-found : goal.decreases-loop-found
decreases-loop-found g l = length l.fn.self.region.now - l.place
