-- A window that is activated, pane by pane and on the desk last.
use Rattle.std.specs.Prelude.{◌≡◌, ℕ, List, Option, Some, None}
use Rattle.be_asking.specs.declared.activity.Activity.TheVariants as who
use Rattle.be_changes.specs.Panes.{PanesAreLeft, PanesAreToChange}
use Rattle.be_changes.specs.declared.events.Activation.{Activation}
use Rattle.be_desk.specs.Plans.{Planned}
use Rattle.be_hall.specs.Hands.{Hand, part_at}
use Rattle.be_machine.specs.Touched as part
use Rattle.be_parts.specs.Desks.{IsChangedBy, IsPlanFor}
use Rattle.be_parts.specs.Parts.{hand_with}
use Rattle.be_parts.specs.declared.part.Part.{Part}
use Rattle.be_parts.specs.declared.part.Part.TheVariants as kinds
use Rattle.be_rules.specs.Places.{place_of}
use Rattle.be_rules.specs.Slices.{Slice}
use Rattle.be_script.specs.Script.{Declared}

-- the desk in hand is one for which the change was planned
abbrev pub HasPlanFor : Declared → List (ℕ × Part) → Planned → Type 0
HasPlanFor d now plan =
    (was : Slice) × (part_at now (place_of d part.desk) ≡ Some (kinds.Desk was))
    × IsPlanFor plan was

-- the panes and the desk are ready, where a window is activated
abbrev pub IsToActivate :
    Declared → List (ℕ × Part) → List (ℕ × Part) → Option Activation → Type 0
IsToActivate d parts now (Some made) =
    PanesAreToChange d parts now who.Input made.plan made.places.items
    × HasPlanFor d now made.plan
IsToActivate d parts now None = Unit {0}

-- the desk was changed as it was planned
abbrev pub HasChangedDesk : Declared → Planned → Hand Part → Hand Part → Type 0
HasChangedDesk d plan old new =
    (was is : Slice) × (part_at old.parts (place_of d part.desk) ≡ Some (kinds.Desk was))
    × (new ≡ hand_with old (place_of d part.desk) (kinds.Desk is))
    × IsChangedBy plan was is

-- first the panes, then the desk
abbrev pub HasActivated :
    Declared → List (ℕ × Part) → Option Activation → Hand Part → Hand Part → Type 0
HasActivated d parts (Some made) old new =
    (between : Hand Part) × PanesAreLeft d parts who.Input made.places.items old between
    × HasChangedDesk d made.plan between new
HasActivated d parts None old new = new ≡ old
