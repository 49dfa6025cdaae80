use Rattle.std.proofs.Common.{◌≡◌, ◌≢◌, ◌<◌, ◌≤◌, [], All, length, vec_capacity}
use Rattle.be_hall.specs.Words.{IsPassOf, in_hand, rules_of}
use Rattle.hall_counters.proofs.turns.run.Given as goal

abbrev pub invariant-loop-i : goal.invariant-loop-i
invariant-loop-i g l =
    IsPassOf (λ x. x.count) l.hall l.pass × (in_hand l.pass ≡ [])
    × All (λ t. IsPassOf (λ x. x.count) l.hall t.pass × (in_hand t.pass ≡ []) × (t.transfer.source < (rules_of l.hall).places) × (t.transfer.target < (rules_of l.hall).places) × (t.transfer.source ≢ t.transfer.target)) l.turns.items
    × (length l.turns.items ≡ l.i) × (length l.fn.transfers ≤ vec_capacity l.turns)
