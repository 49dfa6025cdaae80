use Rattle.std.proofs.Common.{◌≡◌}
use Rattle.read_back.proofs.rounds.read_back.Given as goal

abbrev pub invariant-loop : goal.invariant-loop
invariant-loop l = l.last.items ≡ l.fn.bytes
