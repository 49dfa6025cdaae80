-- A pane's slice after an update began, or was passed over.
use Rattle.std.specs.Prelude.{◌≡◌, ℕ, true, false, None, Some, slice_get}
use Rattle.be_pane.specs.Panes as machine
use Rattle.be_pane.specs.declared.pane.Pane.{Pane}
use Rattle.be_update.specs.Sessions.{is_any}
use Rattle.be_update.specs.Surveys.{Surveyed, IsSurveyOf}
use Rattle.be_machine.specs.State.{State}
use Rattle.be_machine.specs.Update.{begun}
use Rattle.be_machine.specs.Windows.{dirty_of}
use Rattle.be_rules.specs.Slices.{Slice, pane, shown_of}
use Rattle.be_parts.specs.Panes.{IsFull}
use Rattle.be_parts.specs.Stands.{PaneShows}

-- some pane that stood for the slice before was surveyed
pub record IsBegun (survey : Surveyed) (old new : Slice) : Type 0 where
  pub state : State
  pub window : ℕ
  pub example : Pane
  pub full : IsFull state window
  pub shows : PaneShows window (shown_of state window) example
  pub surveyed : IsSurveyOf survey example
  pub dirty : is_any (dirty_of state window) ≡ true
  pub before : old ≡ pane window (shown_of state window)
  pub after_is : new ≡ pane window (shown_of (begun state window) window)

-- nothing waits, and no session is open
pub record IsPassed (old new : Slice) : Type 0 where
  pub state : State
  pub window : ℕ
  pub full : IsFull state window
  pub clean : is_any (dirty_of state window) ≡ false
  pub closed : (k : machine.Pane) → slice_get state.panes window ≡ Some k → k.session ≡ None
  pub before : old ≡ pane window (shown_of state window)
  pub after_is : new ≡ pane window (shown_of (begun state window) window)
