-- A change of a window, made ready with the parts in hand, or refused by the desk.
use Rattle.std.specs.Prelude.{◌≡◌, ◌⊎◌, ℕ, List, map, Some, Err, slice_get}
use Rattle.be_asking.specs.Executing.{IsOldest}
use Rattle.be_command.specs.declared.Command.TheVariants as command
use Rattle.be_desk.specs.Changes.{Desk, desk_after}
use Rattle.be_desk.specs.Plans.{AreAscending, IsPlanOf, Planned}
use Rattle.be_geom.specs.declared.change.Change.{Change}
use Rattle.be_hall.specs.Hands.{part_at}
use Rattle.be_machine.specs.Touched as part
use Rattle.be_pane.specs.declared.pane.Pane.{Pane}
use Rattle.be_parts.specs.Kept.{Kept}
use Rattle.be_parts.specs.Stands.{PaneIs}
use Rattle.be_parts.specs.declared.part.Part.{Part}
use Rattle.be_parts.specs.declared.part.Part.TheVariants as kinds
use Rattle.be_rules.specs.Far.{IsAltered}
use Rattle.be_rules.specs.Places.{place_of}
use Rattle.be_rules.specs.Slices.{desk}
use Rattle.be_script.specs.Script.{Declared}
use Rattle.be_stack.specs.declared.fault.ChangeFault.{ChangeFault}

-- the desk in hand is this one
abbrev pub HasDesk : Declared → List (ℕ × Part) → Desk → Type 0
HasDesk d parts known = part_at parts (place_of d part.desk) ≡ Some (kinds.Desk (desk known))

-- the pane stands for the part of its window, which is in hand
abbrev pub StandsIn : Declared → List (ℕ × Part) → Pane → Type 0
StandsIn d parts pane =
    (kept : Kept) × (part_at parts (place_of d (part.pane pane.window)) ≡ Some (kinds.Pane kept))
    × PaneIs kept.slice pane

-- where the panes of these belong
abbrev pub places_of_panes : Declared → List Pane → List ℕ
places_of_panes d panes = map (λ (pane : Pane). place_of d (part.pane pane.window)) panes

-- one of the panes is this window's
abbrev pub HasPaneOf : List Pane → ℕ → Type 0
HasPaneOf panes u =
    (k : ℕ) × (pane : Pane) × (slice_get panes k ≡ Some pane) × (pane.window ≡ u)

-- the changed window, and each that owns other pixels then
abbrev pub IsStirredBy : Desk → ℕ → Change → ℕ → Type 0
IsStirredBy known w change u = (u ≡ w) ⊎ IsAltered known w change u

-- The plan is one for the desk in hand, with panes that stand for parts in hand, among them that of
-- each window that the change stirs. The places are those of the panes, in the plan's order.
pub record IsPlannedIn
    (d : Declared) (parts : List (ℕ × Part)) (plan : Planned) (places : List ℕ)
    : Type 0 where
  pub known : Desk
  pub at_desk : HasDesk d parts known
  pub panes : List Pane
  pub ascending : AreAscending panes
  pub stand : (k : ℕ) (pane : Pane) → slice_get panes k ≡ Some pane → StandsIn d parts pane
  pub of_panes : places ≡ places_of_panes d panes
  pub planned : IsPlanOf plan known panes
  pub stirred : (u : ℕ) → IsStirredBy known plan.window plan.change u → HasPaneOf panes u

-- the oldest command of window w's link is this change
abbrev pub IsNextChange : Declared → List (ℕ × Part) → ℕ → Change → Type 0
IsNextChange d parts w change = (n : ℕ) × IsOldest d parts w n (command.Change change)

-- and the desk in hand refuses it
pub record IsRefusedIn (d : Declared) (parts : List (ℕ × Part)) (w : ℕ) : Type 0 where
  pub change : Change
  pub next : IsNextChange d parts w change
  pub known : Desk
  pub at_desk : HasDesk d parts known
  pub fault : ChangeFault
  pub refused : desk_after known w change ≡ Err fault
