-- Parts in hand some of which were changed, one after the other.
use Rattle.std.specs.Prelude.{◌≡◌, ◌⊎◌, ℕ, List, [], ◌∷◌, Some}
use Rattle.be_hall.specs.Hands.{part_at, with_part}
use Rattle.be_machine.specs.Touched as part
use Rattle.be_parts.specs.Parts.{logged_of, meaning_of}
use Rattle.be_parts.specs.declared.part.Part.{Part}
use Rattle.be_rules.specs.Places.{IsPart, place_of}
use Rattle.be_rules.specs.Slices.{slice_of}
use Rattle.be_machine.specs.State.{State}
use Rattle.be_script.specs.Script.{Declared}

-- these of the machine's parts became these; their logs stayed
abbrev pub AreMade :
    Declared → List (part.Part × Part) → List (ℕ × Part) → List (ℕ × Part) → Type 0
AreMade d [] old new = new ≡ old
AreMade d (made ∷ rest) old new =
    (was : Part) × (part_at old (place_of d made.0) ≡ Some was)
    × (logged_of made.1 ≡ logged_of was)
    × AreMade d rest (with_part old (place_of d made.0) made.1) new

-- the part is one of them
abbrev pub IsMade : part.Part → List (part.Part × Part) → Type 0
IsMade x [] = ⊥
IsMade x (made ∷ rest) = (x ≡ made.0) ⊎ IsMade x rest

-- each means what it is in this state, but for those that are made once more
abbrev pub AreIn : Declared → State → List (part.Part × Part) → Type 0
AreIn d s [] = Unit {0}
AreIn d s (made ∷ rest) =
    (IsMade made.0 rest ⊎ (IsPart d made.0 × (slice_of s made.0 ≡ meaning_of made.1)))
    × AreIn d s rest
