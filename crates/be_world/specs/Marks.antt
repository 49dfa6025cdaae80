-- Marks of activities by number, of which the windows' come two by two behind the applications'.
use Rattle.std.specs.Prelude.{◌≡◌, ◌⊎◌, ℕ, ◌+◌, ◌*◌, ◌<◌, Bool, false, List, length}
use Rattle.std.specs.Prelude.{Option, Some, None}
use Rattle.std.proofs.Math.ListN.{get_or}

-- marks are kept, and each of these has one
pub record Marks (these : ℕ → Type 0) (old new : List Bool) : Type 0 where
  pub long : length new ≡ length old
  pub kept : (a : ℕ) → a < length old → get_or new a false ≡ false → get_or old a false ≡ false
  pub marked : (a : ℕ) → a < length old → get_or new a false ≡ false → these a → ⊥

-- the looper or the twin of a window
abbrev pub IsOf : ℕ → Option ℕ → ℕ → Type 0
IsOf apps (Some w) a = (a ≡ apps + 2 * w) ⊎ (a ≡ apps + (2 * w + 1))
IsOf apps None a = ⊥

-- the twin of one of so many windows
abbrev pub IsTwin : ℕ → ℕ → ℕ → Type 0
IsTwin apps windows a = (w : ℕ) × (w < windows) × (a ≡ apps + (2 * w + 1))
