-- A screen of windows with what each shows (this project's own).
use Rattle.std.specs.Prelude.{◌≡◌, ◌<◌, ℕ, true, List, length, Some, slice_get}
use Rattle.be_geom.specs.declared.change.Change.{Change}
use Rattle.be_pane.specs.declared.pane.Pane.{Pane}
use Rattle.be_stack.specs.Limits.{is_named_there, is_within_limits}
use Rattle.be_stack.specs.Windows.{Windows}
use Rattle.be_desk.specs.Changes.{Desk}
use Rattle.be_desk.specs.Desks.{IsPaired}
use Rattle.be_desk.specs.Plans.{ArePanesOf}

-- a desk, and the panes of its windows in order of number
pub record Screen : Type 0 where
  pub desk : Desk
  pub panes : List Pane

-- each window of the desk has its pane, which stands at its number
pub record IsScreen (desk : Desk) (panes : List Pane) : Type 0 where
  pub paired : IsPaired desk
  pub panes_of : ArePanesOf desk panes
  pub each : length panes ≡ length desk.windows.windows
  pub numbered : (k : ℕ) (pane : Pane) → slice_get panes k ≡ Some pane → pane.window ≡ k

-- a change within its limits, of a window that is there and by one that is there
pub record IsAskable (windows : Windows) (w : ℕ) (change : Change) : Type 0 where
  pub there : w < length windows.windows
  pub named_there : is_named_there windows change ≡ true
  pub within_limits : is_within_limits change ≡ true

-- the same pane but for the cells of its pixels
pub record IsRecolored (old new : Pane) : Type 0 where
  pub window : new.window ≡ old.window
  pub place : new.place ≡ old.place
  pub pixels : new.spans.rects ≡ old.spans.rects
  pub views : new.tree ≡ old.tree
  pub colors : new.colors.items ≡ old.colors.items
  pub states : new.states.items ≡ old.states.items
