-- What an update is to draw, found in the pane in hand.
use Rattle.std.specs.Prelude.{◌≡◌, ℕ, List, Option, Some, None}
use Rattle.be_hall.specs.Hands.{part_at}
use Rattle.be_machine.specs.Touched as part
use Rattle.be_pane.specs.Owed.{IsClean}
use Rattle.be_pane.specs.declared.pane.Pane.{Pane}
use Rattle.be_parts.specs.Kept.{Kept}
use Rattle.be_parts.specs.Stands.{PaneIs}
use Rattle.be_parts.specs.declared.part.Part.{Part}
use Rattle.be_parts.specs.declared.part.Part.TheVariants as kinds
use Rattle.be_rules.specs.Places.{place_of}
use Rattle.be_script.specs.Script.{Declared}
use Rattle.be_update.specs.Surveys.{IsSurveyOf, Surveyed}
use Rattle.be_views.specs.Whole.{IsTree}

-- what is surveyed where a pixel waits; nothing where none does
abbrev pub IsFoundIn : Option Surveyed → Pane → Type 0
IsFoundIn (Some survey) pane = IsSurveyOf survey pane × (IsClean pane.spans → ⊥)
IsFoundIn None pane = IsClean pane.spans

-- it was found in a pane that stands for the window's part in hand
pub record IsSurveyedIn
    (d : Declared) (parts : List (ℕ × Part)) (w : ℕ) (survey : Option Surveyed)
    : Type 0 where
  pub kept : Kept
  pub there : part_at parts (place_of d (part.pane w)) ≡ Some (kinds.Pane kept)
  pub pane : Pane
  pub stands : PaneIs kept.slice pane
  pub found : IsFoundIn survey pane

-- the views of a pane that stands for the part at this place are a tree
abbrev pub HasTree : List (ℕ × Part) → ℕ → Type 0
HasTree parts place =
    (k : Kept) → part_at parts place ≡ Some (kinds.Pane k)
    → (pane : Pane) × PaneIs k.slice pane × IsTree pane.tree
