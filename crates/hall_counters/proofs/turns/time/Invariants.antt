use Rattle.std.proofs.Common.{◌≡◌, ◌≢◌, ◌<◌, ◌≤◌, All, length, vec_capacity}
use Rattle.hall_counters.proofs.turns.time.Given as goal

abbrev pub invariant-loop-i : goal.invariant-loop-i
invariant-loop-i g l = (length l.transfers.items ≡ l.i) × (l.most ≤ vec_capacity l.transfers) × (l.most ≤ 4) × All (λ t. (t.source < 12) × (t.target < 12) × (t.source ≢ t.target)) l.transfers.items
