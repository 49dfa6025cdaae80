use Rattle.std.proofs.Common.{◌-◌, ◌<◌, ◌≤◌}
use Rattle.be_written.specs.Screens.{AreColored, IsStrip, row_at}
use Rattle.be_written.proofs.screen.longest_run.Given as goal

abbrev pub invariant-loop-end : goal.invariant-loop-end
invariant-loop-end g l = record {
  begun : l.column < l.end;
  within : l.end ≤ l.width;
  colored : AreColored (row_at (g.S.Screen.across l.screen) l.row (g.S.Screen.cells l.screen)) l.column l.end l.first.rgb;
  strip : IsStrip (g.S.Screen.across l.screen) l.row (g.S.Screen.cells l.screen) l.strip;
}

abbrev pub decreases-loop-end : goal.decreases-loop-end
decreases-loop-end g l = l.width - l.end
