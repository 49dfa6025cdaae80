-- What an update of a window is to draw, as it is found before the update begins, and what a pane
-- is once one has begun or was passed over (this project's own).
use Rattle.std.specs.Prelude.{◌≡◌, ℕ, ℤ, ◌+ℤ◌, false, List, Some}
use Rattle.std.specs.Option.{option_map}
use Rattle.be_geom.specs.declared.point.Point.{Point}
use Rattle.be_geom.specs.declared.rect.Rect.{Rect}
use Rattle.be_region.specs.Regions.{region_has}
use Rattle.be_span.specs.Cells.{unmarked}
use Rattle.be_span.specs.Spans.{cell_in, is_dirty}
use Rattle.be_views.specs.Trees.{Tree}
use Rattle.be_pane.specs.declared.pane.Pane.{Pane}
use Rattle.be_region.specs.Sessions.{SameSession}
use Rattle.be_update.specs.Listing.{listed_views}

-- ---- before an update begins

-- the window's pixels that are to be drawn, in its coordinates, and the views that have some of
-- them
pub record Surveyed : Type 0 where
  pub session : List Rect
  pub views : List (ℕ × Rect)

-- the region has exactly the pixels of the pane that wait, seen from the window's left top
abbrev pub IsWaiting : List Rect → Pane → Type 0
IsWaiting rs pane =
    (x y : ℤ) → region_has rs x y
    ≡ is_dirty (cell_in pane.spans (x +ℤ pane.place.x) (y +ℤ pane.place.y))

-- these are the views that are listed for the region's pixels, in whatever order those are given
abbrev pub AreListed : List (ℕ × Rect) → Tree → List Rect → Type 0
AreListed views tree rs =
    (pixels : List Point) → SameSession (Some rs) (Some pixels) → views ≡ listed_views tree pixels

pub record IsSurveyOf (s : Surveyed) (pane : Pane) : Type 0 where
  pub session : IsWaiting s.session pane
  pub views : AreListed s.views pane.tree s.session

-- ---- once it has begun

-- the session is open, no pixel waits any more, the notice has begun, and all else stays
pub record HasBegun (s : Surveyed) (old new : Pane) : Type 0 where
  pub session : new.session ≡ Some s.session
  pub region : new.spans.rects ≡ old.spans.rects
  pub cells : (x y : ℤ) → cell_in new.spans x y ≡ option_map unmarked (cell_in old.spans x y)
  pub notice : new.notified ≡ false
  pub window : new.window ≡ old.window
  pub place : new.place ≡ old.place
  pub tree : new.tree ≡ old.tree
  pub colors : new.colors.items ≡ old.colors.items
  pub states : new.states.items ≡ old.states.items

-- the notice has begun, and nothing else changes
abbrev pub without_notice : Pane → Pane
without_notice pane = record pane { notified = false }
