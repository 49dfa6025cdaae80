use Rattle.std.proofs.Common.{List, ◌++◌, take}
use Rattle.be_span.specs.declared.Cell.{Cell}
use Rattle.be_summary.specs.Colors.{HasColors}
use Rattle.be_summary.proofs.colors.add_cells.Given as goal

abbrev pub invariant-loop-cell : goal.invariant-loop-cell
invariant-loop-cell l =
    (others : List Cell) → HasColors others l.fn.colors
    → HasColors (others ++ take l.cell-index l.cells) l.colors
