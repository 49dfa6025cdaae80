-- What a change that is carried out makes of the windows for which the panes stand (this project's
-- own).
use Rattle.std.specs.Prelude.{◌≡◌, ℕ, ℤ, Bool, true, List, Option, Some, None, Ok, Contains, length}
use Rattle.std.specs.Prelude.{slice_get}
use Rattle.be_color.specs.declared.colors.Color.{Color}
use Rattle.be_geom.specs.declared.change.Change.{Change}
use Rattle.be_geom.specs.declared.point.Point.{Point}
use Rattle.be_input.specs.Pointing.{corner_of}
use Rattle.be_pane.specs.Panes as machine
use Rattle.be_pane.specs.StandsFor.{PaneStandsFor, IsWhole}
use Rattle.be_pane.specs.declared.pane.Pane.{Pane}
use Rattle.be_region.specs.Regions.{region_has}
use Rattle.be_span.specs.Cells.{Lookup, desktop_cell}
use Rattle.be_span.specs.Spans.{pixels_of}
use Rattle.be_span.specs.declared.Cell.{Cell}
use Rattle.be_stack.specs.Owner.{owner_at}
use Rattle.be_views.specs.Trees.{Tree}
use Rattle.be_desk.specs.Affected.{AreAffected}
use Rattle.be_desk.specs.Changes.{Desk, owns, desk_after, changed_cell}
use Rattle.be_desk.specs.Desks.{IsPaired}
use Rattle.be_desk.specs.Plans.{AreAscending, ArePanesOf, AreRenewed, CarriesOver, IsPaneOf}
use Rattle.be_desk.specs.Plans.{IsScreenOf, LooksUp, Planned}
use Rattle.be_desk.specs.declared.planned.Renewed.{Renewed}

-- the screen's cells after a change of window w, where the windows' views have these colours
abbrev pub changed_cells : Desk → Desk → List (List Color) → ℕ → Change → Lookup → (ℤ → ℤ → Cell)
    → ℤ → ℤ → Cell
changed_cells before after colors w change old cells x y =
    changed_cell before after colors w change old x y (cells x y)

-- The pane stands for window u as the machine leaves it after a change of window w: where its desk
-- has the window then, with its views and its pixels of the screen. What else the machine keeps of
-- the window stays.
abbrev pub StandsAfterChange : Desk → Desk → List (List Color) → ℕ → Change → Lookup
    → (ℤ → ℤ → Cell) → ℕ → machine.Pane → Pane → Type 0
StandsAfterChange before after colors w change old cells u kept new =
    (corner : Point) (tree : Tree) → corner_of after.windows u ≡ Some corner
    → slice_get after.pointing.trees u ≡ Some tree →
    PaneStandsFor new u corner kept tree (owns after u)
    (changed_cells before after colors w change old cells)

-- A pane that stands for its window stands, once a planned change is carried out on it, for the
-- window as the machine leaves it.
abbrev pub CarriedAsTheMachine : Type 0
CarriedAsTheMachine =
    (plan : Planned) (these : Option Renewed) (before after : Desk) (panes : List Pane)
    (pane then_pane : Pane) (cells : ℤ → ℤ → Cell) (colors : List (List Color)) (old : Lookup)
    (corner : Point) (kept : machine.Pane) (tree : Tree) →
    IsPaired before → desk_after before plan.window plan.change ≡ Ok after
    → after.windows ≡ plan.windows →
    IsPaneOf before pane → AreRenewed before after plan.window plan.change panes pane these →
    CarriesOver plan these pane then_pane →
    IsScreenOf cells before panes → LooksUp old before plan.window cells
    → slice_get colors pane.window ≡ Some kept.colors →
    PaneStandsFor pane pane.window corner kept tree (owns before pane.window) cells →
    StandsAfterChange before after colors plan.window plan.change old cells pane.window kept
    then_pane

-- What is planned for a pane is right for each that stands for the same window.
abbrev pub PlannedForEach : Type 0
PlannedForEach =
    (before after : Desk) (w : ℕ) (change : Change) (panes : List Pane) (pane other : Pane)
    (these : Option Renewed) (u : ℕ) (corner : Point) (kept : machine.Pane) (tree : Tree)
    (owned : ℤ → ℤ → Bool) (cells : ℤ → ℤ → Cell) →
    PaneStandsFor pane u corner kept tree owned cells
    → PaneStandsFor other u corner kept tree owned cells →
    AreRenewed before after w change panes pane these
    → AreRenewed before after w change panes other these

-- A pane of a window that the change doesn't alter stands for its window then as it is.
abbrev pub OthersAsTheMachine : Type 0
OthersAsTheMachine =
    (desk after : Desk) (w : ℕ) (change : Change) (names : List ℕ) (cells : ℤ → ℤ → Cell)
    (colors : List (List Color)) (old : Lookup) →
    desk_after desk w change ≡ Ok after → AreAffected desk.windows after.windows w names →
    (u : ℕ) → (Contains names u → ⊥) →
    (pane : Pane) (corner : Point) (kept : machine.Pane) (tree : Tree) →
    PaneStandsFor pane u corner kept tree (owns desk u) cells →
    PaneStandsFor pane u corner kept tree (owns after u)
    (changed_cells desk after colors w change old cells)
    × (corner_of after.windows u ≡ corner_of desk.windows u)
    × (slice_get after.pointing.trees u ≡ slice_get desk.pointing.trees u)

-- No pixel is in the panes of two windows, and where no window is the machine's screen shows the
-- desktop.
abbrev pub EachPixelOnce : Type 0
EachPixelOnce =
    (desk after : Desk) (w : ℕ) (change : Change) (cells : ℤ → ℤ → Cell)
    (colors : List (List Color)) (old : Lookup) (x y : ℤ) →
    ((u v : ℕ) (pane other : Pane)
    → ((z t : ℤ) → region_has pane.spans.rects z t ≡ owns after u z t)
    → ((z t : ℤ) → region_has other.spans.rects z t ≡ owns after v z t)
    → region_has pane.spans.rects x y ≡ true → region_has other.spans.rects x y ≡ true → u ≡ v)
    × (owner_at after.windows x y ≡ None
    → changed_cells desk after colors w change old cells x y ≡ desktop_cell)

-- A pane of its window on a desk where windows and views go together has no pixel outside its
-- root's frame.
abbrev pub PanesAreWhole : Type 0
PanesAreWhole = (desk : Desk) (pane : Pane) → IsPaired desk → IsPaneOf desk pane → IsWhole pane

-- Panes of different windows of a desk, each with a cell for each of its pixels, show a screen.
abbrev pub PanesShowAScreen : Type 0
PanesShowAScreen =
    (desk : Desk) (panes : List Pane) → ArePanesOf desk panes → AreAscending panes →
    ((k : ℕ) (pane : Pane) → slice_get panes k ≡ Some pane
    → length pane.spans.cells ≡ pixels_of pane.spans.rects) →
    (cells : ℤ → ℤ → Cell) × IsScreenOf cells desk panes
