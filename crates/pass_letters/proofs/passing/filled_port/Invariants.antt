use Rattle.std.proofs.Common.{◌≡◌, ◌+◌}
use Rattle.pass_letters.proofs.passing.filled_port.Given as goal

abbrev pub invariant-loop-place : goal.invariant-loop-place
invariant-loop-place l = l.port.last + 1 ≡ l._place
