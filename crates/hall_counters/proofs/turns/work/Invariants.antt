use Rattle.std.proofs.Common.{◌≡◌, []}
use Rattle.be_hall.specs.Words.{IsPassOf, in_hand}
use Rattle.hall_counters.proofs.turns.work.Given as goal

abbrev pub invariant-loop : goal.invariant-loop
invariant-loop g l = IsPassOf (λ x. x.count) l.fn.hall l.pass × (in_hand l.pass ≡ [])
