-- What is said of single pixels of a state, and of who may change them.
use Rattle.std.specs.Prelude.{◌≡◌, ◌⊎◌, ℕ, ℤ, Bool, Option, Some, slice_get, option_map}
use Rattle.std.specs.Prelude.{option_and_then}
use Rattle.be_color.specs.declared.colors.Rgb.{Rgb}
use Rattle.be_link.specs.Queues.{Numbered}
use Rattle.be_script.specs.Script.{Declared}
use Rattle.be_span.specs.Screen.{cell_at}
use Rattle.be_span.specs.declared.Cell.{Cell}
use Rattle.be_stack.specs.Owner.{owner_at}
use Rattle.be_machine.specs.Activities.{runner, looper, twin, activity_of}
use Rattle.be_machine.specs.declared.Entry.{Entry}
use Rattle.be_machine.specs.Legal.{IsLegal}
use Rattle.be_machine.specs.State.{State}
use Rattle.be_machine.specs.Wants.{executes, twin_want}
use Rattle.be_machine.specs.Windows.{width_of}

-- the cell at a column and a row of the screen; none off the screen
abbrev pub pixel_at : State → ℤ → ℤ → Option Cell
pixel_at s x y = cell_at (width_of s) s.screen x y

-- its colour, and whether it waits to be drawn
abbrev pub color_at : State → ℤ → ℤ → Option Rgb
color_at s x y = option_map (λ cell. cell.rgb) (pixel_at s x y)

abbrev pub mark_at : State → ℤ → ℤ → Option Bool
mark_at s x y = option_map (λ cell. cell.dirty) (pixel_at s x y)

-- the window that owns the pixel; none on the desktop and off the screen
abbrev pub owner_in : State → ℤ → ℤ → Option ℕ
owner_in s x y = owner_at s.desk.windows x y

-- the entry's activity serves window u: it is its looper or its twin
abbrev pub Serves : Declared → ℕ → Entry → Type 0
Serves d u e =
    (activity_of d e.actor ≡ Some (runner (looper u))) ⊎ (activity_of d e.actor ≡ Some (twin u))

-- a legal entry executes this command, the oldest of window w's link
pub record Executes (d : Declared) (s : State) (e : Entry) (w : ℕ) (c : Numbered) : Type 0 where
  pub legal : IsLegal d s e
  pub by_twin : activity_of d e.actor ≡ Some (twin w)
  pub wanted : twin_want s w ≡ executes w
  pub oldest : option_and_then (λ link. slice_get link 0) (slice_get s.links w) ≡ Some c
