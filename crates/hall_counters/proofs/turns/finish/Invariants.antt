use Rattle.std.proofs.Common.{◌≡◌, [], All}
use Rattle.be_hall.specs.Words.{IsPassOf, in_hand}
use Rattle.hall_counters.proofs.turns.finish.Given as goal

abbrev pub invariant-loop-other : goal.invariant-loop-other
invariant-loop-other g l =
    IsPassOf (λ x. x.count) l.fn.hall l.pass × (in_hand l.pass ≡ [])
    × All (λ p. IsPassOf (λ x. x.count) l.fn.hall p × (in_hand p ≡ [])) l.other-iterator.rest.items
