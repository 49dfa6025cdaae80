-- When the data of a port or of a pane stand for its slice.
use Rattle.std.specs.Prelude.{◌≡◌, ℕ, ℤ, Bool, true, false, Option, Some, None, unwrap_or}
use Rattle.be_geom.specs.declared.point.Point.{Point}
use Rattle.be_pane.specs.Panes as machine
use Rattle.be_pane.specs.StandsFor.{PaneStandsFor, IsWhole}
use Rattle.be_pane.specs.declared.pane.Pane.{Pane}
use Rattle.be_port.specs.Queues.{Queue}
use Rattle.be_port.specs.StandsFor.{PortStandsFor}
use Rattle.be_span.specs.Cells.{desktop_cell}
use Rattle.be_span.specs.declared.Cell.{Cell}
use Rattle.be_views.specs.Trees.{Tree}
use Rattle.be_rules.specs.Slices.{Shown, Slice, desk, input, cell, looper, port, link, pane}
use Rattle.be_rules.specs.Slices.{look_at}

-- ---- ports

-- the letters that wait are those of the slice that weren't taken
abbrev pub PortIs : Slice → Queue → Type 0
PortIs (port w (Some p)) q = PortStandsFor q p
PortIs (port w None) q = ⊥
PortIs (desk x) q = ⊥
PortIs (input k b) q = ⊥
PortIs (cell m a) q = ⊥
PortIs (looper w l b) q = ⊥
PortIs (link w l) q = ⊥
PortIs (pane w x) q = ⊥

-- ---- panes

abbrev pub is_there : Option Cell → Bool
is_there (Some c) = true
is_there None = false

abbrev pub has_cell : Shown → ℤ → ℤ → Bool
has_cell shown x y = is_there (look_at shown.width shown.cells x y)

abbrev pub cell_of : Shown → ℤ → ℤ → Cell
cell_of shown x y = unwrap_or (look_at shown.width shown.cells x y) desktop_cell

-- the pane stands for what is shown of a window
pub record PaneShows (w : ℕ) (shown : Shown) (p : Pane) : Type 0 where
  pub kept : machine.Pane
  pub is_kept : shown.kept ≡ Some kept
  pub corner : Point
  pub is_corner : shown.corner ≡ Some corner
  pub tree : Tree
  pub is_tree : shown.tree ≡ Some tree
  pub stands : PaneStandsFor p w corner kept tree (has_cell shown) (cell_of shown)
  pub whole : IsWhole p

abbrev pub PaneIs : Slice → Pane → Type 0
PaneIs (pane w shown) p = PaneShows w shown p
PaneIs (desk x) p = ⊥
PaneIs (input k b) p = ⊥
PaneIs (cell m a) p = ⊥
PaneIs (looper w l b) p = ⊥
PaneIs (port w q) p = ⊥
PaneIs (link w l) p = ⊥
