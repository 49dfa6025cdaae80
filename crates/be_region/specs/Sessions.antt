-- The pixels of an open update, as a region and as a list (this project's own).
use Rattle.std.specs.Prelude.{◌≡◌, ℤ, List, Option, Some, None}
use Rattle.std.specs.List.{list_any}
use Rattle.be_geom.specs.declared.point.Point.{Point}
use Rattle.be_geom.specs.declared.rect.Rect.{Rect}
use Rattle.be_geom.specs.Places.{at_pixel, same_point}
use Rattle.be_region.specs.Regions.{region_has}

-- the region has the pixels of the list, and no others; where there is no region there is no list
abbrev pub SameSession : Option (List Rect) → Option (List Point) → Type 0
SameSession (Some rects) (Some pixels) =
    (x y : ℤ) → region_has rects x y ≡ list_any (same_point (at_pixel x y)) pixels
SameSession (Some rects) None = ⊥
SameSession None (Some pixels) = ⊥
SameSession None None = Unit {0}
