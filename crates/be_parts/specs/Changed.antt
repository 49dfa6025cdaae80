-- A pane's slice after a change of a window.
use Rattle.std.specs.Prelude.{◌≡◌, ◌<◌, ℕ, ℤ, true, List, length, Ok, Option, Some, IsTrue}
use Rattle.std.specs.Prelude.{slice_get, slice_set, unwrap_or}
use Rattle.be_desk.specs.Changes.{Desk, owns, desk_after}
use Rattle.be_desk.specs.Desks.{IsPaired}
use Rattle.be_desk.specs.Plans.{AreRenewed, IsScreenOf, Planned}
use Rattle.be_geom.specs.declared.change.Change.{Change}
use Rattle.be_stack.specs.Windows.{Windows}
use Rattle.be_pane.specs.declared.pane.Pane.{Pane}
use Rattle.be_span.specs.Cells.{desktop_cell}
use Rattle.be_desk.specs.declared.planned.Renewed.{Renewed}
use Rattle.be_span.specs.declared.Cell.{Cell}
use Rattle.be_stack.specs.Limits.{is_within_limits}
use Rattle.be_machine.specs.Pixels.{pixel_at}
use Rattle.be_machine.specs.State.{State}
use Rattle.be_machine.specs.Windows.{changed}
use Rattle.be_rules.specs.Slices.{Slice, pane, shown_of}
use Rattle.be_parts.specs.Panes.{IsFull}
use Rattle.be_parts.specs.Stands.{PaneShows}

-- the cell of a pixel, and off the screen the desktop's
abbrev pub cells_in : State → ℤ → ℤ → Cell
cells_in s x y = unwrap_or (pixel_at s x y) desktop_cell

-- These spans were planned for a pane that stood for the slice before: in some state whose desk
-- takes the change, with the panes that were looked at. The slice after is that of the state after.
pub record IsChanged
    (windows : Windows) (w : ℕ) (change : Change) (these : Option Renewed) (old new : Slice)
    : Type 0 where
  pub state : State
  pub then_desk : Desk
  pub panes : List Pane
  pub example : Pane
  pub window : ℕ
  pub there : window < length windows.windows
  pub limits : IsTrue (is_within_limits change)
  pub paired : IsPaired state.desk
  pub taken : desk_after state.desk w change ≡ Ok then_desk
  pub windows_are : then_desk.windows ≡ windows
  -- each pixel that a window owns, and each that the window owns then, is on the screen
  pub full : (u : ℕ) → IsFull state u
  pub full_then :
      (x y : ℤ) → owns then_desk window x y ≡ true → (c : Cell) × (pixel_at state x y ≡ Some c)
  pub screen : IsScreenOf (cells_in state) state.desk panes
  pub shows : PaneShows window (shown_of state window) example
  pub rooted : 0 < length example.tree
  pub renewed :
      AreRenewed state.desk then_desk w change panes example these
  pub before : old ≡ pane window (shown_of state window)
  pub after_is : new ≡ pane window (shown_of (changed state w change) window)

-- the plan's spans of this number were planned so
abbrev pub HasSpansOf : Planned → ℕ → Slice → Slice → Type 0
HasSpansOf plan number old new =
    (these : Option Renewed) × (slice_get plan.spans number ≡ Some these)
    × IsChanged plan.windows plan.window plan.change these old new

-- the plan without the spans of this number, or with others
abbrev pub IsAsBefore : Planned → ℕ → Planned → Type 0
IsAsBefore old number new =
    (other : Option Renewed) × (new ≡ record old { spans = slice_set old.spans number other })
