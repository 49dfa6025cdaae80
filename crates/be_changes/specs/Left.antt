-- Parts that were made what an activity's step leaves, one after the other.
use Rattle.std.specs.Prelude.{◌≡◌, ◌⊎◌, ℕ, List, [], ◌∷◌, map}
use Rattle.be_asking.specs.declared.activity.Activity.{Activity}
use Rattle.be_hall.specs.Hands.{Hand}
use Rattle.be_machine.specs.Touched as part
use Rattle.be_parts.specs.Parts.{meaning_of}
use Rattle.be_parts.specs.declared.part.Part.{Part}
use Rattle.be_rules.specs.Places.{IsPart, place_of}
use Rattle.be_script.specs.Script.{Declared}
use Rattle.be_steps.specs.Made.{AreMade, IsMade}
use Rattle.be_steps.specs.Steps.{LeavesAt}

-- each means what the step leaves at its place, where it began with these parts in hand, but for
-- those that are made once more
abbrev pub AreLeft : Declared → List (ℕ × Part) → Activity → List (part.Part × Part) → Type 0
AreLeft d parts who [] = Unit {0}
AreLeft d parts who (made ∷ rest) =
    (IsPart d made.0
    × (IsMade made.0 rest ⊎ LeavesAt d parts who (place_of d made.0) (meaning_of made.1)))
    × AreLeft d parts who rest

-- these parts of the machine were made so, in this order, and no others
pub record HasLeft
    (d : Declared) (parts : List (ℕ × Part)) (who : Activity) (xs : List part.Part)
    (old new : Hand Part)
    : Type 0 where
  pub changes : List (part.Part × Part)
  pub names : map (λ (made : part.Part × Part). made.0) changes ≡ xs
  pub made : AreMade d changes old.parts new.parts
  pub left : AreLeft d parts who changes
  pub room : new.room ≡ old.room
