-- When a part can be looked for among those in hand, and what it means that it isn't there.
use Rattle.std.specs.Prelude.{◌≡◌, ℕ, List, Some, None}
use Rattle.be_hall.specs.Hands.{meant, part_at}
use Rattle.be_hall.specs.Machine.{SomeFits}
use Rattle.be_machine.specs.Touched as part
use Rattle.be_parts.specs.Parts.{meaning_of}
use Rattle.be_parts.specs.declared.part.Part.{Part}
use Rattle.be_rules.specs.Places.{IsPart, place_of}
use Rattle.be_rules.specs.Rules.{world_machine}
use Rattle.be_script.specs.Limits.{IsWithinLimits}
use Rattle.be_script.specs.Script.{Declared}

-- it is one of the script's
pub record IsReachable (d : Declared) (parts : List (ℕ × Part)) (x : part.Part) : Type 0 where
  pub limits : IsWithinLimits d
  pub fitting : SomeFits (world_machine d) (meant meaning_of parts)
  pub there : IsPart d x

-- it would lie at this place, and isn't in hand
abbrev pub IsMissing : Declared → List (ℕ × Part) → part.Part → ℕ → Type 0
IsMissing d parts x place = (place ≡ place_of d x) × (part_at parts place ≡ None)

abbrev pub IsInHand : Declared → List (ℕ × Part) → part.Part → Type 0
IsInHand d parts x = (y : Part) × (part_at parts (place_of d x) ≡ Some y)
