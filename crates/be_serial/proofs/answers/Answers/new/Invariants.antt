use Rattle.std.proofs.Common.{◌≡◌, ℕ, ◌<◌, ◌≤◌, true, false, length, get_or, vec_capacity}
use Rattle.be_serial.proofs.answers.Answers.new.Given as goal

abbrev pub invariant-loop-activity : goal.invariant-loop-activity
invariant-loop-activity l =
    (length l.can.items ≡ l._activity) × (length l.stale.items ≡ l._activity)
    × (l.many ≤ vec_capacity l.can) × (l.many ≤ vec_capacity l.stale)
    × ((a : ℕ) → a < l._activity → get_or l.stale.items a false ≡ true)
