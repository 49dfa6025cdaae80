-- Windows by their numbers, from front to back (The Be Book: windows lie in front of each other;
-- numbers are this project's own).
use Rattle.std.specs.Prelude.{ℕ, ◌==◌, not, List, [], ◌∷◌, filter, if◌then◌else◌}

-- the order without a window
abbrev pub others : ℕ → List ℕ → List ℕ
others w order = filter (λ v. not (v == w)) order

-- the order with window w put directly behind the window in front of it, or behind all where that
-- one isn't among them
abbrev pub put_behind : ℕ → ℕ → List ℕ → List ℕ
put_behind front w [] = w ∷ []
put_behind front w (v ∷ order) = if v == front then v ∷ w ∷ order else v ∷ put_behind front w order
