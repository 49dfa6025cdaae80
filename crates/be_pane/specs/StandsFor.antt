-- What a pane stands for: what the machine keeps of a window, with the pixels that the window owns
-- (this project's own).
use Rattle.std.specs.Prelude.{◌≡◌, ℕ, ℤ, Bool, true, List, length, Option, Some, None, slice_get}
use Rattle.be_geom.specs.declared.point.Point.{Point}
use Rattle.be_geom.specs.declared.rect.Rect.{Rect}
use Rattle.be_geom.specs.Rects.{rect_has, moved_rect}
use Rattle.be_region.specs.Regions.{region_has}
use Rattle.be_region.specs.Sessions.{SameSession}
use Rattle.be_span.specs.declared.Cell.{Cell}
use Rattle.be_span.specs.Spans.{cell_in}
use Rattle.be_views.specs.Trees.{Tree, View}
use Rattle.be_pane.specs.Panes as machine
use Rattle.be_pane.specs.SameStacks.{SameStacks}
use Rattle.be_pane.specs.declared.pane.Pane.{Pane}

-- The pane of a window that has this number, whose frame has its left top at the corner, of which
-- the machine keeps this, with these views, and which owns the pixels that pass the test. The cells
-- are given for each pixel of the screen, and those of pixels that the window doesn't own don't
-- matter.
pub record PaneStandsFor (pane : Pane) (w : ℕ) (corner : Point) (kept : machine.Pane) (tree : Tree)
    (owned : ℤ → ℤ → Bool) (cells : ℤ → ℤ → Cell) : Type 0 where
  pub number : pane.window ≡ w
  pub place : pane.place ≡ corner
  pub pixels : (x y : ℤ) → region_has pane.spans.rects x y ≡ owned x y
  pub shown : (x y : ℤ) → owned x y ≡ true → cell_in pane.spans x y ≡ Some (cells x y)
  pub views : pane.tree ≡ tree
  pub colors : pane.colors.items ≡ kept.colors
  pub stacks : SameStacks pane.states.items kept.stacks
  pub session : SameSession pane.session kept.session
  pub notice : pane.notified ≡ kept.notified

-- each view has a colour and drawing states, and the window owns no pixel outside its root's frame
pub record IsWhole (pane : Pane) : Type 0 where
  pub colored : length pane.colors.items ≡ length pane.tree
  pub drawn : length pane.states.items ≡ length pane.tree
  pub within : (x y : ℤ) → region_has pane.spans.rects x y ≡ true → (root : View)
      → slice_get pane.tree 0 ≡ Some root
      → rect_has (moved_rect root.frame pane.place.x pane.place.y) x y ≡ true
