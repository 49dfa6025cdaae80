-- A pane once its change is carried out, as the pane alone tells it (this project's own).
use Rattle.std.specs.Prelude.{◌≡◌, ℕ, ◌==◌, true, false, Option, Some}
use Rattle.be_geom.specs.declared.change.Change.{Change}
use Rattle.be_geom.specs.declared.change.Change.TheVariants.{Show, Hide, MoveTo, MoveBy, ResizeTo}
use Rattle.be_geom.specs.declared.change.Change.TheVariants.{Activate, Behind, Focus, Close}
use Rattle.be_input.specs.Pointing.{corner_of}
use Rattle.be_pane.specs.declared.pane.Pane.{Pane}
use Rattle.be_stack.specs.Windows.{Windows}
use Rattle.be_views.specs.Resizing.{resized}
use Rattle.be_views.specs.Trees.{Tree}
use Rattle.be_desk.specs.Plans.{AreFor, then_spans}
use Rattle.be_desk.specs.declared.planned.Renewed.{Renewed}

-- the views after their window's change: resized where they can be, and else as they were
abbrev pub IsFollowed : Change → Tree → Tree → Type 0
IsFollowed (ResizeTo width height) old new =
    (next : Tree) → resized old width height ≡ Some next → new ≡ next
IsFollowed Show old new = new ≡ old
IsFollowed Hide old new = new ≡ old
IsFollowed (MoveTo corner) old new = new ≡ old
IsFollowed (MoveBy dx dy) old new = new ≡ old
IsFollowed Activate old new = new ≡ old
IsFollowed (Behind front) old new = new ≡ old
IsFollowed (Focus view) old new = new ≡ old
IsFollowed Close old new = new ≡ old

-- a pane with these spans, if they were made ready for it, where its window is among the windows afterwards; of window w the views
-- follow
pub record IsCarriedOver (these : Option Renewed) (windows : Windows) (w : ℕ) (change : Change)
    (old new : Pane) : Type 0 where
  pub window : new.window ≡ old.window
  pub place : corner_of windows old.window ≡ Some new.place
  pub spans : AreFor these old → new.spans ≡ then_spans these old
  pub own_views : (old.window == w) ≡ true → IsFollowed change old.tree new.tree
  pub other_views : (old.window == w) ≡ false → new.tree ≡ old.tree
  pub colors : new.colors.items ≡ old.colors.items
  pub states : new.states.items ≡ old.states.items
  pub session : new.session ≡ old.session
  pub notice : new.notified ≡ old.notified
