-- An event of mouse or key that is the input's next line.
use Rattle.std.specs.Borrow.{Bor}
use Rattle.std.specs.Prelude.{◌≡◌, ℕ, List, Some}
use Rattle.be_asking.specs.declared.activity.Activity.TheVariants as who
use Rattle.be_asking.specs.declared.want.Want.TheVariants as want
use Rattle.be_changes.specs.Events.{IsDeliveredIn}
use Rattle.be_changes.specs.declared.events.Delivered.{Delivered}
use Rattle.be_input.specs.declared.Event.{Event}
use Rattle.be_parts.specs.declared.part.Part.{Part}
use Rattle.be_rules.specs.Far.{event_in}
use Rattle.be_script.specs.Script.{Declared}
use Rattle.be_script.specs.declared.InputLine.{InputLine}
use Rattle.be_steps.specs.Steps.{IsAllowed}

-- the input may use a line that is this event
pub record MayHappen (d : Declared) (parts : List (ℕ × Part)) (event : Event) : Type 0 where
  pub line : Bor InputLine
  pub is : event_in line.now ≡ Some event
  pub allowed : IsAllowed d parts who.Input (want.Uses line)

-- what each line delivers that is this event
abbrev pub DeliversIn : Declared → List (ℕ × Part) → Event → Delivered → Type 0
DeliversIn d parts event made =
    (line : InputLine) → event_in line ≡ Some event → IsDeliveredIn d parts line made
