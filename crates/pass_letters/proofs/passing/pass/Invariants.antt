use Rattle.std.proofs.Common.{◌≡◌, ◌+◌}
use Rattle.pass_letters.proofs.passing.pass.Given as goal

abbrev pub invariant-loop-letter : goal.invariant-loop-letter
invariant-loop-letter l = l.port.last ≡ l.initial.port.last + l._letter
