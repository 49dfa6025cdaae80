-- A pane's slice after its twin executed a command that is no change, and after a notice.
use Rattle.std.specs.Prelude.{◌≡◌, ℕ, ℤ, true, List, Some, slice_get, option_and_then}
use Rattle.be_bitmap.specs.Pictures.{Picture}
use Rattle.be_command.specs.Effects.{Effect, effect_of}
use Rattle.be_link.specs.Queues.{Numbered}
use Rattle.be_script.specs.Script.{Declared}
use Rattle.be_span.specs.declared.Cell.{Cell}
use Rattle.be_twin.specs.Judged.{HasPen, IsNoChange}
use Rattle.be_machine.specs.Commands.{executed}
use Rattle.be_machine.specs.Pixels.{pixel_at}
use Rattle.be_machine.specs.Port.{notified}
use Rattle.be_machine.specs.State.{State}
use Rattle.be_machine.specs.Windows.{owned}
use Rattle.be_rules.specs.Slices.{Slice, pane, shown_of}

-- each pixel that the window owns is on the screen
abbrev pub IsFull : State → ℕ → Type 0
IsFull s w = (x y : ℤ) → owned s w x y ≡ true → (c : Cell) × (pixel_at s x y ≡ Some c)

-- window w's twin executes a command: the slice before, and the one after
pub record IsExecuted (pictures : List Picture) (effect : Effect) (old new : Slice) : Type 0 where
  pub script : Declared
  pub state : State
  pub window : ℕ
  pub command : Numbered
  pub pictures_are : pictures ≡ script.pictures
  pub oldest :
      option_and_then (λ link. slice_get link 0) (slice_get state.links window) ≡ Some command
  pub effect_is : effect ≡ effect_of command.command
  pub no_change : IsNoChange effect
  pub pen : HasPen effect
  pub full : IsFull state window
  pub before : old ≡ pane window (shown_of state window)
  pub after_is : new ≡ pane window (shown_of (executed script state window) window)

-- a notice of an update was posted
pub record HasNotified (old new : Slice) : Type 0 where
  pub state : State
  pub window : ℕ
  pub before : old ≡ pane window (shown_of state window)
  pub after_is : new ≡ pane window (shown_of (notified state window) window)
