-- Where in the order of its rectangles a region is asked for a pixel (this project's own).
use Rattle.std.specs.Prelude.{◌≡◌, ◌<◌, ℕ, ℤ, pos, ◌+ℤ◌, ◌≤ℤ◌, Bool, true, false, ◌&&◌, ◌||◌}
use Rattle.std.specs.Prelude.{int_lt, int_le, List, length, slice_index_or}
use Rattle.std.specs.List.{AllWithin}
use Rattle.be_geom.specs.declared.rect.Rect.{Rect}
use Rattle.be_geom.specs.Rects.{rect_has}
use Rattle.be_region.specs.Regions.{region_has}

-- the pixel is below the rectangle, or right of it in one of its rows or in those below
abbrev pub is_passed : Rect → ℤ → ℤ → Bool
is_passed r x y = int_lt r.bottom y || (int_le r.top y && int_lt r.right x)

-- The rectangle of this place has the pixel; none before it has a pixel of the row from there on,
-- and the column behind it has none at all.
pub record IsSpanAt (rs : List Rect) (place : ℕ) (x y : ℤ) : Type 0 where
  pub within : place < length rs
  pub has : (d : Rect) → rect_has (slice_index_or rs place d) x y ≡ true
  pub first : (z : ℤ) → x ≤ℤ z → AllWithin (λ r. rect_has r z y ≡ false) rs 0 place
  pub ends : (d : Rect) → region_has rs ((slice_index_or rs place d).right +ℤ pos 1) y ≡ false
