use Rattle.std.proofs.Common.{◌≤◌, ◌-◌, length, take}
use Rattle.be_update.specs.Rows.{HasMore, waits_in}
use Rattle.be_update.proofs.dirty.add_row.Given as goal

abbrev pub invariant-loop-at : goal.invariant-loop-at
invariant-loop-at l = record { within : l.at ≤ length l.cells; more : HasMore (waits_in (take l.at l.cells) l.left l.y) l.initial.rects.items l.rects.items }

abbrev pub decreases-loop-at : goal.decreases-loop-at
decreases-loop-at l = length l.cells - l.at
