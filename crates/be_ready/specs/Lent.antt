-- Panes of windows that are lent for a plan.
use Rattle.std.specs.Prelude.{◌≡◌, ℕ, List, [], ◌∷◌, Some}
use Rattle.be_hall.specs.Hands.{part_at}
use Rattle.be_machine.specs.Touched as part
use Rattle.be_pane.specs.declared.pane.Pane.{Pane}
use Rattle.be_parts.specs.Kept.{Kept}
use Rattle.be_parts.specs.Stands.{PaneIs}
use Rattle.be_parts.specs.declared.part.Part.{Part}
use Rattle.be_parts.specs.declared.part.Part.TheVariants as kinds
use Rattle.be_rules.specs.Places.{place_of}
use Rattle.be_script.specs.Script.{Declared}
use Rattle.be_views.specs.Whole.{IsTree}

-- it stands for the part of window u, which is in hand, and its views are a tree
pub record IsLent
    (d : Declared) (parts : List (ℕ × Part)) (u : ℕ) (pane : Pane)
    : Type 0 where
  pub kept : Kept
  pub there : part_at parts (place_of d (part.pane u)) ≡ Some (kinds.Pane kept)
  pub stands : PaneIs kept.slice pane
  pub tree : IsTree pane.tree

-- one for each window, in the same order
abbrev pub AreLent : Declared → List (ℕ × Part) → List ℕ → List Pane → Type 0
AreLent d parts [] [] = Unit {0}
AreLent d parts [] (pane ∷ panes) = ⊥
AreLent d parts (u ∷ windows) [] = ⊥
AreLent d parts (u ∷ windows) (pane ∷ panes) =
    IsLent d parts u pane × AreLent d parts windows panes
