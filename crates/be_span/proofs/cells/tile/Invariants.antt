use Rattle.be_span.proofs.SliceLemmas.{AreTold, turn_cell}
use Rattle.be_span.proofs.cells.tile.Given as goal

abbrev pub invariant-loop-place : goal.invariant-loop-place
invariant-loop-place l =
    AreTold (turn_cell l.fn.byte l.fn.first l.fn.set l.fn.unset) l.fn.cells l.cells l.place

abbrev pub invariant-loop-place-2 : goal.invariant-loop-place-2
invariant-loop-place-2 l = record {
  told : AreTold (turn_cell l.fn.byte l.fn.first l.fn.set l.fn.unset) l.fn.cells l.cells l.place;
}
