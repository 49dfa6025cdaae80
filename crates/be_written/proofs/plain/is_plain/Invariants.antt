use Rattle.std.proofs.Common.{◌≡◌, ◌≤◌, ◌%◌, length}
use Rattle.be_written.specs.Screens.{AreColored}
use Rattle.be_written.proofs.plain.is_plain.Given as goal

abbrev pub invariant-loop-cell : goal.invariant-loop-cell
invariant-loop-cell l = record {
  within : l.cell-index ≤ length l.cells;
  colored : l.other % 16777216 ≡ 0 → AreColored l.cells 0 l.cell-index l.fn.rgb;
}
