use Rattle.std.proofs.Common.{◌≡◌, ◌≤◌, length, vec_capacity}
use Rattle.hall_counters.specs.Opening.{EachOpens}
use Rattle.hall_counters.proofs.turns.opening.Given as goal

abbrev pub invariant-loop-place : goal.invariant-loop-place
invariant-loop-place l = (length l.parts.items ≡ l._place) × EachOpens l.parts.items × (l.fn.places ≤ vec_capacity l.parts)
