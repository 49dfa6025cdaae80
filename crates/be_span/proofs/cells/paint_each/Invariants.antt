use Rattle.std.proofs.Common.{◌≡◌}
use Rattle.be_span.specs.Slices.{painted}
use Rattle.be_span.proofs.SliceLemmas.{IsDoneTo}
use Rattle.be_span.proofs.cells.paint_each.Given as goal

abbrev pub invariant-loop-cell : goal.invariant-loop-cell
invariant-loop-cell g l = record {
  place : l.place ≡ l.cell-index;
  cells : IsDoneTo (λ k. painted record { mode = l.mode; high = l.high; low = l.low }
      (g.S.Source.color_at l.source k)) l.initial.cells l.cells l.cell-index;
}
