-- Whose visits are counted.
use Rattle.std.specs.Prelude.{ℕ, vec_len}
use Rattle.run_gates.specs.declared.visits.Visits.{Visits}

-- those of the activities below this number
abbrev pub activities_of : Visits → ℕ
activities_of v = vec_len v.before
