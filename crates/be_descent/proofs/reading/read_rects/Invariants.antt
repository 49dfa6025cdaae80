use Rattle.std.proofs.Common.{◌≤◌, ◌-◌, ◌-ℤ◌, true, length}
use Rattle.be_span.specs.Painting.{IsPainted}
use Rattle.be_span.specs.Spans.{cell_in}
use Rattle.be_descent.specs.Pieces.{as_read}
use Rattle.be_descent.proofs.PaintLemmas.{painted_to}
use Rattle.be_descent.proofs.reading.read_rects.Given as goal

abbrev pub invariant-loop-found : goal.invariant-loop-found
invariant-loop-found l = record {
  within : l.place ≤ length l.fn.spans.rects;
  done : IsPainted (λ x y c. as_read (cell_in l.fn.spans (x -ℤ l.fn.way.right)
      (y -ℤ l.fn.way.down))) (painted_to l.fn.spans.rects l.place l.fn.way l.fn.part (λ x y. true))
      l.fn.piece l.piece;
}

abbrev pub decreases-loop-found : goal.decreases-loop-found
decreases-loop-found l = length l.fn.spans.rects - l.place
