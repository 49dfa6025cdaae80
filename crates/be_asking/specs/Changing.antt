-- Which part that a change of a window needs isn't in hand, and what comes of a refused one.
use Rattle.std.specs.Prelude.{◌≡◌, ℕ, Bool, is_none, List, find, Option, option_map, Result, Err}
use Rattle.be_desk.specs.Changes.{Desk}
use Rattle.be_hall.specs.Hands.{part_at}
use Rattle.be_machine.specs.Touched as part
use Rattle.be_machine.specs.Windows.{outcome_of_fault}
use Rattle.be_parts.specs.declared.part.Part.{Part}
use Rattle.be_rules.specs.Places.{place_of}
use Rattle.be_script.specs.Script.{Declared}
use Rattle.be_stack.specs.declared.fault.ChangeFault.{ChangeFault}
use Rattle.be_twin.specs.declared.Outcome.{Outcome}

-- the part isn't in hand
abbrev pub is_out : Declared → List (ℕ × Part) → part.Part → Bool
is_out d parts x = is_none (part_at parts (place_of d x))

-- the place of the first of these that isn't in hand
abbrev pub first_missing : Declared → List (ℕ × Part) → List part.Part → Option ℕ
first_missing d parts xs = option_map (place_of d) (find (is_out d parts) xs)

-- the change is refused with this outcome
abbrev pub IsRefusedWith : Result Desk ChangeFault → Outcome → Type 0
IsRefusedWith after outcome =
    (fault : ChangeFault) × (after ≡ Err fault) × (outcome_of_fault fault ≡ outcome)
