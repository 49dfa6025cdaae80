use Rattle.std.proofs.Common.{◌≤◌, ◌-◌, length}
use Rattle.be_update.specs.Rows.{IsAllOf}
use Rattle.be_update.proofs.dirty.run_end.Given as goal

abbrev pub invariant-loop-at : goal.invariant-loop-at
invariant-loop-at l = record { forward : l.from ≤ l.at; within : l.at ≤ length l.cells; same : IsAllOf l.dirty l.cells l.from l.at }

abbrev pub decreases-loop-at : goal.decreases-loop-at
decreases-loop-at l = length l.cells - l.at
