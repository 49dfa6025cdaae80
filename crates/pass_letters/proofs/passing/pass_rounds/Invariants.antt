use Rattle.std.proofs.Common.{◌≡◌, ◌+◌, ◌*◌}
use Rattle.pass_letters.proofs.passing.pass_rounds.Given as goal

abbrev pub invariant-loop-round : goal.invariant-loop-round
invariant-loop-round l = (l.port.last ≡ l.last) × (l.last ≡ 99 + l.letters * l._round)
