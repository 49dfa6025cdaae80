use Rattle.std.proofs.Common.{◌≡◌, slice_get}
use Rattle.be_span.proofs.SliceLemmas.{IsDoneTo}
use Rattle.be_descent.specs.Pieces.{put_cell}
use Rattle.be_descent.proofs.put.put_each.Given as goal

abbrev pub invariant-loop-cell : goal.invariant-loop-cell
invariant-loop-cell l = record {
  place : l.place ≡ l.cell-index;
  cells : IsDoneTo (λ k. put_cell l.color (slice_get l.row k)) l.initial.cells l.cells l.cell-index;
}
