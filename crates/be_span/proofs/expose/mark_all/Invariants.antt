use Rattle.std.proofs.Common.{◌≡◌, ◌++◌, map, take, drop}
use Rattle.be_color.specs.declared.colors.Color.TheVariants.{Clear}
use Rattle.be_span.specs.Cells.{exposed_cell}
use Rattle.be_span.proofs.expose.mark_all.Given as goal

abbrev pub invariant-loop-cell : goal.invariant-loop-cell
invariant-loop-cell l = l.cells ≡ map (exposed_cell Clear) (take l.cell-index l.initial.cells) ++ drop l.cell-index l.initial.cells
