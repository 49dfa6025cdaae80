use Rattle.std.proofs.Common.{pos, ◌-ℤ◌, ◌≤ℤ◌, unsigned_abs}
use Rattle.walk_runs.proofs.walk.pixels_of.Given as goal

abbrev pub invariant-loop-left : goal.invariant-loop-left
invariant-loop-left l = l.from ≤ℤ pos 32785

abbrev pub decreases-loop-left : goal.decreases-loop-left
decreases-loop-left l = unsigned_abs (pos 32785 -ℤ l.from)
