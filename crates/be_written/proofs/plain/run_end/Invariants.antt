use Rattle.std.proofs.Common.{◌-◌, ◌<◌, ◌≤◌, length}
use Rattle.be_written.specs.Screens.{AreColored}
use Rattle.be_written.proofs.plain.run_end.Given as goal

abbrev pub invariant-loop-end : goal.invariant-loop-end
invariant-loop-end l = record {
  begun : l.place < l.end;
  within : l.end ≤ length l.cells;
  colored : AreColored l.cells l.place l.end l.rgb;
}

abbrev pub decreases-loop-end : goal.decreases-loop-end
decreases-loop-end l = length l.cells - l.end
