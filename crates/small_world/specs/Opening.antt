-- The counters at the start.
use Rattle.std.specs.Prelude.{ℕ, zero, suc, ◌+◌, List, [], ◌∷◌, ◌++◌, nat_lt, ◌==◌, if◌then◌else◌}
use Rattle.small_world.specs.declared.step.Count.{Count}
use Rattle.small_world.specs.declared.world.World.{World}
use Rattle.small_world.specs.Counting.{closing_place}

-- the first consumer has so many units stored, all others none, and the closing activity has one
abbrev pub opening_units : World → ℕ → ℕ → ℕ
opening_units w stored activity =
    if nat_lt activity (closing_place w) then (if activity == w.producers then stored else 0)
    else 1

-- producers have so many units to give
abbrev pub opening_count : World → ℕ → ℕ → ℕ → Count
opening_count w each stored activity = record {
  left = if nat_lt activity w.producers then each else 0;
  units = opening_units w stored activity;
}

-- those of the first k activities
abbrev pub opening_below : World → ℕ → ℕ → ℕ → List Count
opening_below w each stored zero = []
opening_below w each stored (suc k) =
    opening_below w each stored k ++ opening_count w each stored k ∷ []

abbrev pub opening_counts : World → ℕ → ℕ → List Count
opening_counts w each stored = opening_below w each stored (closing_place w + 1)
