-- Panes that a plan is carried out on, one after the other.
use Rattle.std.specs.Prelude.{◌≡◌, ◌≤◌, ℕ, List, map, Some, slice_get}
use Rattle.be_asking.specs.declared.activity.Activity.{Activity}
use Rattle.be_changes.specs.Left.{HasLeft}
use Rattle.be_desk.specs.Plans.{Planned}
use Rattle.be_hall.specs.Hands.{Hand, meant, part_at}
use Rattle.be_hall.specs.Machine.{IsHeld}
use Rattle.be_machine.specs.Touched as part
use Rattle.be_parts.specs.Changed.{HasSpansOf}
use Rattle.be_parts.specs.Kept.{Kept}
use Rattle.be_parts.specs.Parts.{meaning_of}
use Rattle.be_parts.specs.declared.part.Part.{Part}
use Rattle.be_parts.specs.declared.part.Part.TheVariants as kinds
use Rattle.be_rules.specs.Places.{IsPart, place_of}
use Rattle.be_rules.specs.Slices.{Slice}
use Rattle.be_script.specs.Script.{Declared}
use Rattle.be_steps.specs.Steps.{LeavesAt}

-- where the windows' panes belong
abbrev pub pane_places : Declared → List ℕ → List ℕ
pane_places d windows = map (λ u. place_of d (part.pane u)) windows

-- no window stands twice
abbrev pub IsEachOnce : List ℕ → Type 0
IsEachOnce windows =
    (k j u : ℕ) → slice_get windows k ≡ Some u → slice_get windows j ≡ Some u → k ≡ j

-- The window's pane is in hand, and the plan's spans of this number lead to what the step leaves
-- there. The parts are those with which the step began.
pub record IsToChange
    (d : Declared) (parts now : List (ℕ × Part)) (who : Activity) (plan : Planned) (number u : ℕ)
    : Type 0 where
  pub there : IsPart d (part.pane u)
  pub held : IsHeld (meant meaning_of parts) (place_of d (part.pane u))
  pub was : Kept
  pub at_place : part_at now (place_of d (part.pane u)) ≡ Some (kinds.Pane was)
  pub leads :
      (v : Slice) → LeavesAt d parts who (place_of d (part.pane u)) v
      → HasSpansOf plan number was.slice v

-- so it is for each window from this number on
abbrev pub AreToChange :
    Declared → List (ℕ × Part) → List (ℕ × Part) → Activity → Planned → List ℕ → ℕ → Type 0
AreToChange d parts now who plan windows from =
    (k u : ℕ) → from ≤ k → slice_get windows k ≡ Some u → IsToChange d parts now who plan k u

-- the panes at these places are those of some windows, each of which stands once and is to be
-- changed
abbrev pub PanesAreToChange :
    Declared → List (ℕ × Part) → List (ℕ × Part) → Activity → Planned → List ℕ → Type 0
PanesAreToChange d parts now who plan places =
    (windows : List ℕ) × (places ≡ pane_places d windows) × IsEachOnce windows
    × AreToChange d parts now who plan windows 0

-- they were made what the step leaves
abbrev pub PanesAreLeft :
    Declared → List (ℕ × Part) → Activity → List ℕ → Hand Part → Hand Part → Type 0
PanesAreLeft d parts who places old new =
    (windows : List ℕ) × (places ≡ pane_places d windows)
    × HasLeft d parts who (map part.pane windows) old new
