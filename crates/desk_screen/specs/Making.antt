-- Windows that are all hidden, while a screen is made (this project's own).
use Rattle.std.specs.Prelude.{◌≡◌, ◌<◌, ℕ, ℤ, false, List, length, Some, slice_get}
use Rattle.be_geom.specs.declared.point.Point.{Point}
use Rattle.be_pane.specs.declared.pane.Pane.{Pane}
use Rattle.be_region.specs.Regions.{region_has}
use Rattle.be_stack.specs.Windows.{Windows, is_shown_window}
use Rattle.be_stack.specs.declared.window.Window.{Window}
use Rattle.be_views.specs.Trees.{Tree, View, left_top}
use Rattle.be_desk.specs.Desks.{IsRootIn}

-- a pane of this number, place and views, that owns no pixel
pub record IsNewPane (w : ℕ) (corner : Point) (tree : Tree) (pane : Pane) : Type 0 where
  pub number : pane.window ≡ w
  pub place : pane.place ≡ corner
  pub views : pane.tree ≡ tree
  pub colored : length pane.colors.items ≡ length tree
  pub drawn : length pane.states.items ≡ length tree
  pub none : (x y : ℤ) → region_has pane.spans.rects x y ≡ false

-- a hidden window with its views and its pane
pub record IsMade (w : ℕ) (window : Window) (tree : Tree) (pane : Pane) : Type 0 where
  pub hidden : is_shown_window window ≡ false
  pub some : 0 < length tree
  pub rooted : (root : View) → slice_get tree 0 ≡ Some root → IsRootIn window root
  pub new_pane : IsNewPane w (left_top window.frame) tree pane

-- all of them are
pub record AreMade (windows : Windows) (trees : List Tree) (panes : List Pane) : Type 0 where
  pub many_trees : length trees ≡ length windows.windows
  pub many_panes : length panes ≡ length windows.windows
  pub each : (k : ℕ) (window : Window) (tree : Tree) (pane : Pane)
      → slice_get windows.windows k ≡ Some window → slice_get trees k ≡ Some tree
      → slice_get panes k ≡ Some pane → IsMade k window tree pane
