-- The places that a turn wants.
use Rattle.std.specs.Prelude.{◌≡◌, ℕ, ◌≤◌, ◌==◌, ◌||◌, Bool, true, false, List, [], ◌∷◌, ◌++◌}
use Rattle.std.specs.Prelude.{Some, filter, if◌then◌else◌, length, nat_lt, slice_index_or}
use Rattle.std.specs.Prelude.{◌&&◌, vec_capacity}
use Rattle.std.specs.List.{list_any, prefix_len}
use Rattle.be_hall.specs.Hands.{up_from}
use Rattle.be_hall.specs.Machine.{Machine}
use Rattle.be_workers.specs.declared.wants.Wants.{Wants}

-- the places, in order
abbrev pub wanted : Wants → List ℕ
wanted wants = wants.places.items

-- those that were added to the activity's own, in the order in which they were
abbrev pub added : Wants → List ℕ
added wants = wants.more.items

-- there is room for so many places
abbrev pub HasRoom : Wants → ℕ → Type 0
HasRoom wants places =
    (places ≤ vec_capacity wants.places) × (places ≤ vec_capacity wants.more)
    × (places ≤ vec_capacity wants.own)

-- the place is one of the activity's own, or was added
abbrev pub is_wanted : (ℕ → Bool) → List ℕ → ℕ → Bool
is_wanted owns more place = owns place || list_any (λ p. p == place) more

-- all such places below a number, in ascending order
abbrev pub wanted_below : (ℕ → Bool) → List ℕ → ℕ → List ℕ
wanted_below owns more places = filter (is_wanted owns more) (up_from 0 places)

-- these are all places that the activity owns and all that were added, as far as they exist
abbrev pub IsChosen :
    {P M E : Type 0} → (P → Machine M E) → (P → ℕ → ℕ → Bool) → P → ℕ → Wants → Type 0
IsChosen machine owns rules who wants =
    wanted wants ≡ wanted_below (owns rules who) (added wants) (machine rules).places

-- the list has the activity's own places
abbrev pub ListsOwn :
    {P M E : Type 0} → (P → Machine M E) → (P → ℕ → ℕ → Bool) → P → ℕ → Wants → Type 0
ListsOwn machine owns rules who wants =
    wants.own.items ≡ wanted_below (owns rules who) [] (machine rules).places

-- there is room for all places, and where an activity was asked for, its own places are listed
abbrev pub Suits : {P M E : Type 0} → (P → Machine M E) → (P → ℕ → ℕ → Bool) → P → Wants → Type 0
Suits machine owns rules wants =
    HasRoom wants (machine rules).places
    × ((who : ℕ) → wants.owner ≡ Some who → ListsOwn machine owns rules who wants)

-- the ascending list with one place more, at its place in the order, if it isn't there yet
abbrev pub inserted : ℕ → List ℕ → List ℕ
inserted p [] = p ∷ []
inserted p (q ∷ qs) =
    if nat_lt q p then q ∷ inserted p qs else if q == p then q ∷ qs else p ∷ q ∷ qs

-- how many numbers at the front of the list are less than this one
abbrev pub below : ℕ → List ℕ → ℕ
below p ps = prefix_len (λ q. nat_lt q p) ps

-- the number stands at this place of the list
abbrev pub stands_at : List ℕ → ℕ → ℕ → Bool
stands_at ps at p = nat_lt at (length ps) && (slice_index_or ps at 0 == p)

-- the list, and behind it the place where it is wanted
abbrev pub pushed : Bool → List ℕ → ℕ → List ℕ
pushed true ps p = ps ++ p ∷ []
pushed false ps p = ps
