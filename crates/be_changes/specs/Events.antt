-- An event of mouse or key, made ready with the parts in hand.
use Rattle.std.specs.Prelude.{◌≡◌, ℕ, List, Option, Some, None, Err}
use Rattle.be_changes.specs.Planned.{HasDesk, IsPlannedIn}
use Rattle.be_changes.specs.declared.events.Activation.{Activation}
use Rattle.be_changes.specs.declared.events.Addressed.{Addressed}
use Rattle.be_changes.specs.declared.events.Delivered.{Delivered}
use Rattle.be_desk.specs.Changes.{Desk, desk_after}
use Rattle.be_geom.specs.declared.change.Change.TheVariants.{Activate}
use Rattle.be_input.specs.Deliveries.{Post, delivered}
use Rattle.be_input.specs.declared.Event.{Event}
use Rattle.be_machine.specs.Input.{input_letter}
use Rattle.be_parts.specs.declared.part.Part.{Part}
use Rattle.be_port.specs.StandsFor.{Carries}
use Rattle.be_rules.specs.Far.{event_in}
use Rattle.be_script.specs.Script.{Declared}
use Rattle.be_script.specs.declared.InputLine.{InputLine}
use Rattle.be_stack.specs.declared.fault.ChangeFault.{ChangeFault}

-- the letter, where there is one, carries the message to its window
abbrev pub IsAddressed : Option Post → Option Addressed → Type 0
IsAddressed (Some post) (Some made) =
    (made.window ≡ post.window) × Carries made.letter (input_letter post)
IsAddressed (Some post) None = ⊥
IsAddressed None (Some made) = ⊥
IsAddressed None None = Unit {0}

-- a window that the event activates was planned so, or the desk refuses it
abbrev pub IsActivation :
    Declared → List (ℕ × Part) → Desk → Option ℕ → Option Activation → Type 0
IsActivation d parts known (Some w) (Some made) =
    (made.plan.window ≡ w) × (made.plan.change ≡ Activate)
    × IsPlannedIn d parts made.plan made.places.items
IsActivation d parts known (Some w) None =
    (fault : ChangeFault) × (desk_after known w Activate ≡ Err fault)
IsActivation d parts known None (Some made) = ⊥
IsActivation d parts known None None = Unit {0}

-- all of it is what the event delivers, as the desk in hand tells
pub record IsDeliveredIn
    (d : Declared) (parts : List (ℕ × Part)) (line : InputLine) (made : Delivered)
    : Type 0 where
  pub event : Event
  pub is : event_in line ≡ Some event
  pub known : Desk
  pub at_desk : HasDesk d parts known
  pub first : IsAddressed (delivered known.windows known.pointing event).first made.first
  pub second : IsAddressed (delivered known.windows known.pointing event).second made.second
  pub activation :
      IsActivation d parts known (delivered known.windows known.pointing event).activate
      made.activation
  pub under : made.under ≡ (delivered known.windows known.pointing event).under
