-- The rectangles of the pixels that wait, row by row: what the private calls add (this project's
-- own).
use Rattle.std.specs.Prelude.{◌≡◌, ◌<◌, ◌≤◌, ℕ, ℤ, pos, negsuc, ◌+ℤ◌, ◌-ℤ◌, Bool, true, false, ◌&&◌}
use Rattle.std.specs.Prelude.{◌||◌, List, Some, slice_get}
use Rattle.std.specs.List.{filter_map}
use Rattle.std.specs.Option.{option_map}
use Rattle.std.specs.Ordering.{int_eq}
use Rattle.be_geom.specs.declared.point.Point.{Point}
use Rattle.be_geom.specs.declared.rect.Rect.{Rect}
use Rattle.be_geom.specs.Rects.{rect_has, moved_rect}
use Rattle.be_region.specs.Regions.{region_has}
use Rattle.be_span.specs.declared.Cell.{Cell}
use Rattle.be_span.specs.Spans.{is_dirty}
use Rattle.be_views.specs.Trees.{Tree}
use Rattle.be_region.specs.Sessions.{SameSession}
use Rattle.be_update.specs.Listing.{rect_in}

-- the new rectangles have the pixels of the old ones, and those that pass the test
abbrev pub HasMore : (ℤ → ℤ → Bool) → List Rect → List Rect → Type 0
HasMore test old new = (x y : ℤ) → region_has new x y ≡ (region_has old x y || test x y)

-- the cell at a place counted from the first one waits
abbrev pub waits_at : List Cell → ℤ → Bool
waits_at cells (pos k) = is_dirty (slice_get cells k)
waits_at cells (negsuc k) = false

-- the pixel is in the row y, whose first cell is at a column, and waits
abbrev pub waits_in : List Cell → ℤ → ℤ → ℤ → ℤ → Bool
waits_in cells left y z w = int_eq w y && waits_at cells (z -ℤ left)

-- the cells from one place to before another have this mark
abbrev pub IsAllOf : Bool → List Cell → ℕ → ℕ → Type 0
IsAllOf dirty cells from to =
    (k : ℕ) → from ≤ k → k < to → option_map (λ c. c.dirty) (slice_get cells k) ≡ Some dirty

-- the first rows of a rectangle, so many
abbrev pub rows_of : Rect → ℕ → Rect
rows_of r n = record r { bottom = r.top +ℤ pos n -ℤ pos 1 }

-- the pixels lie in the frame, moved to the place
abbrev pub LieIn : List Rect → Point → Rect → Type 0
LieIn rs place frame =
    (x y : ℤ) → region_has rs x y ≡ true → rect_has (moved_rect frame place.x place.y) x y ≡ true

-- of these views those that have pixels of the region, each with its rectangle
abbrev pub AreAmong : List ℕ → List (ℕ × Rect) → Tree → List Rect → Type 0
AreAmong order views tree rs =
    (pixels : List Point) → SameSession (Some rs) (Some pixels) →
    views ≡ filter_map (λ v. option_map (λ r. (v, r)) (rect_in tree pixels v)) order
