use Rattle.std.proofs.Common.{◌≡◌, ◌≤◌, [], length, map, All, vec_capacity}
use Rattle.small_world.specs.Counters.{count_of, log_of}
use Rattle.small_world.specs.Opening.{opening_below}
use Rattle.small_world.proofs.world.World.opening.Given as goal

abbrev pub invariant-loop-activity : goal.invariant-loop-activity
invariant-loop-activity l =
    (map count_of l.parts.items ≡ opening_below l.self l.each l.stored l.activity)
    × (length l.parts.items ≡ l.activity)
    × (l.places ≤ vec_capacity l.parts)
    × All (λ x. log_of x ≡ []) l.parts.items
