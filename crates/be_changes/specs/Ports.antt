-- A port in hand that is closed with its window.
use Rattle.std.specs.Prelude.{◌≡◌, ℕ, List, Some}
use Rattle.be_asking.specs.declared.activity.Activity.{Activity}
use Rattle.be_geom.specs.declared.change.Change.{Change}
use Rattle.be_hall.specs.Hands.{meant, part_at}
use Rattle.be_hall.specs.Machine.{IsHeld}
use Rattle.be_machine.specs.Touched as part
use Rattle.be_parts.specs.Kinds.{kind_of, of_port}
use Rattle.be_parts.specs.Parts.{meaning_of}
use Rattle.be_parts.specs.Ports.{HasClosed}
use Rattle.be_parts.specs.declared.part.Part.{Part}
use Rattle.be_rules.specs.Places.{IsPart, place_of}
use Rattle.be_rules.specs.Slices.{Slice}
use Rattle.be_rules.specs.Sure.{IsAmong, port_for}
use Rattle.be_script.specs.Script.{Declared}
use Rattle.be_steps.specs.Steps.{LeavesAt}

-- a part at this place means a port
abbrev pub MeansPort : List (ℕ × Part) → ℕ → Type 0
MeansPort parts place =
    (y : Part) × (part_at parts place ≡ Some y) × (kind_of (meaning_of y) ≡ of_port)

-- The part is a port in hand, and what the step leaves there is the port closed. The parts are
-- those with which the step began.
pub record IsToClose
    (d : Declared) (parts now : List (ℕ × Part)) (who : Activity) (x : part.Part)
    : Type 0 where
  pub there : IsPart d x
  pub held : IsHeld (meant meaning_of parts) (place_of d x)
  pub port : MeansPort now (place_of d x)
  pub leads :
      (y : Part) → part_at now (place_of d x) ≡ Some y
      → (v : Slice) → LeavesAt d parts who (place_of d x) v → HasClosed (meaning_of y) v

-- so it is with the port of a window that the change closes
abbrev pub AreToClose :
    Declared → List (ℕ × Part) → List (ℕ × Part) → Activity → ℕ → Change → Type 0
AreToClose d parts now who w change =
    (x : part.Part) → IsAmong x (port_for w change) → IsToClose d parts now who x
