-- Counters at the start.
use Rattle.std.specs.Prelude.{◌≡◌, ℕ, ◌≤◌, List, [], ◌∷◌, length}
use Rattle.hall_counters.specs.declared.counters.Counter.{Counter}

abbrev pub EachOpens : List Counter → Type 0
EachOpens [] = Unit {0}
EachOpens (x ∷ xs) =
    (x.count.units ≤ 4611686018427387904) × (x.count.left ≤ 1073741824) × (x.log.items ≡ [])
    × EachOpens xs

-- so many counters that have made no transfer, each with no more than it can have
abbrev pub Opens : ℕ → List Counter → Type 0
Opens places parts = (length parts ≡ places) × EachOpens parts
