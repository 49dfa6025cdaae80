-- What calls at the places of a list accept and change, where the list is a part of a longer one.
use Rattle.std.specs.Prelude.{ℕ, ◌+◌, ◌<◌, ◌≡◌, List, length, slice_index_or}
use denote.Ref.{MutBor}
use denote.Param.Members.{Shared}
use Rattle.std.specs.Fork.{AcceptsAt, ChangesAt}

module _ {F T : Type 0}
    (g : Shared F (ℕ × (MutBor T × Unit {0})) ((Unit {0}) × (MutBor T × Unit {0})))
    (f : F) (base : ℕ) where
  -- f may be called at each place of xs, which begins at base
  pub record AcceptsFrom (xs : List T) : Type 0 where
    pub each : (k : ℕ) (d : T) → k < length xs → AcceptsAt g f (base + k) (slice_index_or xs k d)

  -- xs begins at base, and each element of ys is what a call of f left at that place
  pub record ChangesFrom (xs ys : List T) : Type 0 where
    pub len : length ys ≡ length xs
    pub each : (k : ℕ) (d : T) → k < length xs
        → ChangesAt g f (base + k) (slice_index_or xs k d) (slice_index_or ys k d)
