use Rattle.std.proofs.Common.{◌+◌, ◌-◌, ◌*◌, ◌≤◌, take}
use Rattle.be_summary.specs.Colors.{HasColors}
use Rattle.be_summary.proofs.colors.add_row.Given as goal

abbrev pub invariant-loop-column : goal.invariant-loop-column
invariant-loop-column g l = record {
  within : l.column ≤ l.width;
  told : HasColors
      (take (l.row * g.S.Screen.across l.screen + l.column) (g.S.Screen.cells l.screen)) l.colors;
}

abbrev pub decreases-loop-column : goal.decreases-loop-column
decreases-loop-column g l = l.width - l.column
