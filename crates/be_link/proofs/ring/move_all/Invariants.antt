use Rattle.std.proofs.Common.{◌≡◌, ◌+◌, ◌≤◌, ◌++◌, length}
use Rattle.be_link.proofs.ring.move_all.Given as goal

abbrev pub invariant-loop-item : goal.invariant-loop-item
invariant-loop-item g l =
    (l.to.items ++ l.from.items ≡ l.initial.to.items ++ l.initial.from.items) × (l.to.capacity ≡ l.initial.to.capacity) × (l.from.capacity ≡ l.initial.from.capacity)
    × (length l.to.items + length l.from.items ≤ l.to.capacity)

abbrev pub decreases-loop-item : goal.decreases-loop-item
decreases-loop-item g l = length l.from.items
