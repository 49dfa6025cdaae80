-- No lock lies behind.
use Rattle.std.proofs.Common.{◌≡◌, ◌≤◌, length, None}
use Rattle.be_machine.specs.Program.{lock_before}
use Rattle.be_asking.proofs.programs.lock_at.Given as goal

abbrev pub invariant-loop-behind : goal.invariant-loop-behind
invariant-loop-behind l = (l.behind ≤ length l.program) × (lock_before None l.program l.step ≡ lock_before None l.program l.behind)

abbrev pub decreases-loop-behind : goal.decreases-loop-behind
decreases-loop-behind l = l.behind
