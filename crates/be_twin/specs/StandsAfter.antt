-- What a pane stands for after a command on it (this project's own).
use Rattle.std.specs.Prelude.{◌≡◌, ℕ, ℤ, Bool, true, List, Option, Some}
use Rattle.be_geom.specs.declared.point.Point.{Point}
use Rattle.be_color.specs.declared.colors.Color.{Color}
use Rattle.be_bitmap.specs.Pictures.{Picture}
use Rattle.be_command.specs.Effects.{Deed, Effect, at_view, changes, ends_update}
use Rattle.be_pane.specs.Panes.{Pane}
use Rattle.be_pane.specs.StandsFor.{PaneStandsFor}
use Rattle.be_pane.specs.declared.pane.Pane as code
use Rattle.be_span.specs.Cells.{Lookup}
use Rattle.be_span.specs.declared.Cell.{Cell}
use Rattle.be_views.specs.Trees.{Tree}
use Rattle.be_twin.specs.Executed.{Sight, sight_of, pane_after, executed_cell, without_session}

-- the old cells of the screen are the window's where it owns the pixel
abbrev pub AgreesWith : (ℤ → ℤ → Bool) → (ℤ → ℤ → Cell) → Lookup → Type 0
AgreesWith owned cells old = (x y : ℤ) → owned x y ≡ true → old x y ≡ Some (cells x y)

-- each pixel of the screen after a deed
abbrev pub cells_after : List Picture → (ℤ → ℤ → Bool) → List Color → Deed → Option Sight → Lookup
    → (ℤ → ℤ → Cell) → ℤ → ℤ → Cell
cells_after pictures owned all deed sight old cells x y =
    executed_cell pictures owned all deed sight old x y (cells x y)

-- The pane stands for the window as the machine leaves it: the states and colours after the deed,
-- and each pixel that the window owns; after the end of an update the window without its session.
abbrev pub StandsAfter : List Picture → ℕ → Point → Pane → Tree → (ℤ → ℤ → Bool) → (ℤ → ℤ → Cell)
    → Lookup → Effect → code.Pane → Type 0
StandsAfter pictures w corner kept tree owned cells old (at_view v deed) new =
    let sight = sight_of corner tree kept v in
    PaneStandsFor new w corner (pane_after pictures deed v sight kept) tree owned
    (cells_after pictures owned kept.colors deed sight old cells)
StandsAfter pictures w corner kept tree owned cells old (changes change) new = Unit {0}
StandsAfter pictures w corner kept tree owned cells old ends_update new =
    PaneStandsFor new w corner (without_session kept) tree owned cells
