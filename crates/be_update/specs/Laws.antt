-- What begins in a pane begins in the window for which it stands (this project's own).
use Rattle.std.specs.Prelude.{◌≡◌, ◌↔◌, ℕ, ℤ, Bool, true, false, ◌&&◌, List, Some, None}
use Rattle.std.specs.List.{list_any}
use Rattle.be_geom.specs.declared.point.Point.{Point}
use Rattle.be_geom.specs.Places.{at_pixel, same_point}
use Rattle.be_span.specs.declared.Cell.{Cell}
use Rattle.be_span.specs.Screen.{cell_at}
use Rattle.be_views.specs.Trees.{Tree}
use Rattle.be_pane.specs.Panes as machine
use Rattle.be_pane.specs.declared.pane.Pane.{Pane}
use Rattle.be_pane.specs.Owed.{IsClean, IsOwed}
use Rattle.be_pane.specs.StandsFor.{IsWhole, PaneStandsFor}
use Rattle.be_update.specs.Sessions.{dirty_pixels, is_any, is_owed, session_of, with_session}
use Rattle.be_update.specs.Sessions.{passed, cleaned_cell}
use Rattle.be_update.specs.Listing.{listed_views}
use Rattle.be_update.specs.Surveys.{Surveyed, IsSurveyOf, HasBegun, without_notice}

-- the list has the pixels that the window owns and that wait, and no others
abbrev pub AreDirty : (ℤ → ℤ → Bool) → (ℤ → ℤ → Cell) → List Point → Type 0
AreDirty owned cells dirty =
    (x y : ℤ) → list_any (same_point (at_pixel x y)) dirty ≡ (owned x y && (cells x y).dirty)

-- the machine's list has them, where each pixel that the window owns has its cell on the screen
abbrev pub ListedAsDirty : Type 0
ListedAsDirty =
    (width : ℕ) (owned : ℤ → ℤ → Bool) (screen : List Cell) (cells : ℤ → ℤ → Cell) →
    ((x y : ℤ) → owned x y ≡ true → cell_at width screen x y ≡ Some (cells x y)) →
    AreDirty owned cells (dirty_pixels width owned screen)

-- A pane has a session exactly where the machine keeps one of the window for which it stands, and
-- nothing waits in it exactly where the machine lists nothing.
abbrev pub FoundAsTheMachine : Type 0
FoundAsTheMachine =
    (pane : Pane) (w : ℕ) (corner : Point) (kept : machine.Pane) (tree : Tree)
    (owned : ℤ → ℤ → Bool) (cells : ℤ → ℤ → Cell) (dirty : List Point) →
    PaneStandsFor pane w corner kept tree owned cells → AreDirty owned cells dirty →
    ((pane.session ≡ None) ↔ (kept.session ≡ None)) × (IsClean pane.spans ↔ (is_any dirty ≡ false))

-- A survey of a pane is one of each that stands for the same window.
abbrev pub SurveyedForEach : Type 0
SurveyedForEach =
    (s : Surveyed) (pane other : Pane) (w : ℕ) (corner : Point) (kept : machine.Pane) (tree : Tree)
    (owned : ℤ → ℤ → Bool) (cells : ℤ → ℤ → Cell) →
    PaneStandsFor pane w corner kept tree owned cells
    → PaneStandsFor other w corner kept tree owned cells →
    IsSurveyOf s pane → IsSurveyOf s other

-- A pane owes a notice exactly where the machine says that the window for which it stands is owed
-- one. A window that is closed owns no pixel.
abbrev pub OwedAsTheMachine : Type 0
OwedAsTheMachine =
    (pane : Pane) (w : ℕ) (corner : Point) (kept : machine.Pane) (tree : Tree)
    (owned : ℤ → ℤ → Bool) (cells : ℤ → ℤ → Cell) (dirty : List Point) (closed : Bool) →
    PaneStandsFor pane w corner kept tree owned cells → AreDirty owned cells dirty →
    (closed ≡ true → (x y : ℤ) → owned x y ≡ false)
    → IsOwed pane ↔ (is_owed closed dirty kept ≡ true)

-- the cells once the window's wait no more
abbrev pub cleaned : (ℤ → ℤ → Bool) → (ℤ → ℤ → Cell) → ℤ → ℤ → Cell
cleaned owned cells x y = cleaned_cell owned (λ _ _. None) x y (cells x y)

-- A pane that stands for a window stands, once an update has begun by a survey of it, for the
-- window in which the machine has opened a session of all its dirty pixels; and the views that it
-- gives are those that the machine lists.
abbrev pub BegunAsTheMachine : Type 0
BegunAsTheMachine =
    (s : Surveyed) (old new : Pane) (w : ℕ) (corner : Point) (kept : machine.Pane) (tree : Tree)
    (owned : ℤ → ℤ → Bool) (cells : ℤ → ℤ → Cell) (dirty : List Point) →
    IsSurveyOf s old → HasBegun s old new → PaneStandsFor old w corner kept tree owned cells
    → AreDirty owned cells dirty →
    PaneStandsFor new w corner (with_session (session_of corner dirty) kept) tree owned
    (cleaned owned cells)
    × (s.views ≡ listed_views tree (session_of corner dirty))

-- a pane whose notice was passed over stands for the window whose notice was
abbrev pub PassedAsTheMachine : Type 0
PassedAsTheMachine =
    (pane : Pane) (w : ℕ) (corner : Point) (kept : machine.Pane) (tree : Tree)
    (owned : ℤ → ℤ → Bool) (cells : ℤ → ℤ → Cell) →
    PaneStandsFor pane w corner kept tree owned cells →
    PaneStandsFor (without_notice pane) w corner (passed kept) tree owned cells

-- A pane that is whole stays whole once an update has begun or was passed over.
abbrev pub StaysWhole : Type 0
StaysWhole =
    ((s : Surveyed) (old new : Pane) → HasBegun s old new → IsWhole old → IsWhole new)
    × ((pane : Pane) → IsWhole pane → IsWhole (without_notice pane))
