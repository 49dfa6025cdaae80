use Rattle.std.proofs.Common.{◌≡◌, ◌++◌, map, take, drop}
use Rattle.be_span.specs.Cells.{unmarked}
use Rattle.be_span.proofs.rows.unmark_all.Given as goal

abbrev pub invariant-loop-cell : goal.invariant-loop-cell
invariant-loop-cell l = l.cells ≡ map unmarked (take l.cell-index l.initial.cells) ++ drop l.cell-index l.initial.cells
