use Rattle.std.proofs.Common.{◌≤◌, ◌-◌, length}
use Rattle.be_span.specs.Painting.{IsPainted}
use Rattle.be_descent.proofs.PaintLemmas.{painted_to}
use Rattle.be_descent.specs.declared.way.TheConstants.{HERE}
use Rattle.be_descent.proofs.area.paint_area.Given as goal

abbrev pub invariant-loop-found : goal.invariant-loop-found
invariant-loop-found g l = record {
  within : l.place ≤ length l.fn.spans.rects;
  done : IsPainted (g.L.Lay.rule l.stage)
      (painted_to l.fn.spans.rects l.place HERE l.area (g.L.Lay.at l.stage)) l.fn.spans l.spans;
}

abbrev pub decreases-loop-found : goal.decreases-loop-found
decreases-loop-found g l = length l.fn.spans.rects - l.place
