-- What writing a part does to the bytes written before it.
use Rattle.std.specs.Prelude.{◌≡◌, ℕ, List, ◌++◌}

-- new is old and then the spelling of a part
pub record Appends (spells : List ℕ → Type 0) (old new : List ℕ) : Type 0 where
  pub bytes : List ℕ
  pub spelt : spells bytes
  pub behind : new ≡ old ++ bytes
