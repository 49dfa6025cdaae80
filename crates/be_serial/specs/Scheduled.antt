-- The history that a seed picks.
use Rattle.std.specs.Prelude.{◌≡◌, ℕ, ◌+◌, ◌*◌, ◌/◌, ◌%◌, ◌<◌, ◌==◌, if◌then◌else◌, zero, suc}
use Rattle.std.specs.Prelude.{Bool, true, false, List, [], ◌∷◌, ◌++◌, length, Option, Some}
use Rattle.std.proofs.Math.ListN.{get_or}
use Rattle.be_hall.specs.Machine.{Machine}
use Rattle.be_turns.specs.Turning.{is_some}

-- the generator: the seed 0 draws nothing
abbrev pub next_draw : ℕ → ℕ → ℕ
next_draw seed x =
    if seed == 0 then x
    else (x * 6364136223846793005 + 1442695040888963407) % 18446744073709551616

-- what was drawn after so many entries
abbrev pub draws : ℕ → ℕ → ℕ → ℕ
draws seed x zero = x
draws seed x (suc n) = draws seed (next_draw seed x) n

-- which of so many is picked, by what was drawn
abbrev pub place_of : ℕ → ℕ → ℕ → ℕ
place_of seed x many = if seed == 0 then 0 else (x / 8589934592) % many

-- the list, and behind it the number where it is wanted
abbrev pub pushed_if : Bool → List ℕ → ℕ → List ℕ
pushed_if true ps p = ps ++ p ∷ []
pushed_if false ps p = ps

module _ {M E : Type 0} (legal : List M → ℕ → Option E) where
  -- the activities below k that have a legal entry, in order of number
  abbrev pub ready_below : List M → ℕ → List ℕ
  ready_below all zero = []
  ready_below all (suc k) = pushed_if (is_some (legal all k)) (ready_below all k) k

module _ {M E : Type 0} (x : Machine M E) (legal : List M → ℕ → Option E) (many seed : ℕ) where
  -- which activity of the list is picked, by what was drawn
  abbrev pub picked_of : ℕ → List ℕ → ℕ
  picked_of drawn ready = get_or ready (place_of seed drawn (length ready)) 0

  -- each entry is that of the activity that the seed picks, of those that have a legal entry where
  -- it stands
  abbrev pub Picked : ℕ → List M → List E → Type 0
  Picked drawn now [] = Unit {0}
  Picked drawn now (e ∷ es) =
      (0 < length (ready_below legal now many))
      × (legal now (picked_of (next_draw seed drawn) (ready_below legal now many)) ≡ Some e)
      × Picked (next_draw seed drawn) (x.after now e) es
