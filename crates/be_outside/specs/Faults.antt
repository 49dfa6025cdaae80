-- Counts of what has happened outside of the program. They are numbers of 64 bits, and stop at the
-- last.
use Rattle.std.specs.Prelude.{ℕ, ◌+◌, ◌-◌, ◌^◌, ◌<◌, ◌≤◌, ◌⊎◌, min}

-- A count of faults grew in a call, or stands at the last number, where it stops.
abbrev pub FaultsRose : ℕ → ℕ → Type 0
FaultsRose old new = (old < new) ⊎ (2 ^ 64 - 1 ≤ new)

-- one more, unless the count stands at the last number
abbrev pub one_more : ℕ → ℕ
one_more count = min (count + 1) (2 ^ 64 - 1)
