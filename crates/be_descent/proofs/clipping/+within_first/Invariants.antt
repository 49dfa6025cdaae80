use Rattle.std.proofs.Common.{◌≤◌, ◌-◌, ◌&&◌, length}
use Rattle.be_descent.specs.Clips.{first_hold}
use Rattle.be_span.specs.Painting.{IsPainted}
use Rattle.be_descent.proofs.PaintLemmas.{painted_to}
use Rattle.be_descent.proofs.clipping.+within_first.Given as goal

abbrev pub decreases-within_first : goal.decreases-within_first
decreases-within_first g l = l.count

abbrev pub invariant-loop-found : goal.invariant-loop-found
invariant-loop-found g l = record {
  within : l.place ≤ length l.clip.region.now;
  done : IsPainted (g.L.Lay.rule l.fn.next)
      (painted_to l.clip.region.now l.place l.way l.fn.area
      (λ x y. first_hold l.fn.states (l.fn.count - 1) l.fn.corner x y && g.L.Lay.at l.fn.next x y))
      l.fn.spans l.spans;
}

abbrev pub decreases-loop-found : goal.decreases-loop-found
decreases-loop-found g l = length l.clip.region.now - l.place
