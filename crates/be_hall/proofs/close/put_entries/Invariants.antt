use Rattle.std.proofs.Common.{◌≡◌, ◌++◌, map, vec_capacity}
use Rattle.be_hall.proofs.close.put_entries.Given as goal

abbrev pub invariant-loop-pair : goal.invariant-loop-pair
invariant-loop-pair g l =
    (l.history.items ≡ l.initial.history.items ++ map (λ x. x.1) l.yielded) × (l.yielded ++ l.pair-iterator.rest.items ≡ l.fn.pairs.items) × (vec_capacity l.history ≡ vec_capacity l.initial.history)
