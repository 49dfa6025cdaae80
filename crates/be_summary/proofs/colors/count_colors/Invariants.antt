use Rattle.std.proofs.Common.{◌*◌, take}
use Rattle.be_summary.specs.Colors.{HasColors}
use Rattle.be_summary.proofs.colors.count_colors.Given as goal

abbrev pub invariant-loop-row : goal.invariant-loop-row
invariant-loop-row g l =
    HasColors (take (l.row * g.S.Screen.across l.screen) (g.S.Screen.cells l.screen)) l.colors
