-- The smallest rectangle round a region (The Be Book: BRegion, Frame).
use Rattle.std.specs.Prelude.{◌≡◌, ℤ, true, List}
use Rattle.std.specs.Int.{int_max, int_min}
use Rattle.be_geom.specs.declared.rect.Rect.{Rect}
use Rattle.be_geom.specs.Rects.{rect_has}
use Rattle.be_region.specs.Regions.{region_has}

-- the rectangle has each pixel of the region, and on each of its four edges there is one
pub record IsFrame (f : Rect) (rs : List Rect) : Type 0 where
  pub holds : (x y : ℤ) → region_has rs x y ≡ true → rect_has f x y ≡ true
  pub left : (y : ℤ) × (region_has rs f.left y ≡ true)
  pub top : (x : ℤ) × (region_has rs x f.top ≡ true)
  pub right : (y : ℤ) × (region_has rs f.right y ≡ true)
  pub bottom : (x : ℤ) × (region_has rs x f.bottom ≡ true)

-- the smallest rectangle round two that aren't empty
abbrev pub outer_rect : Rect → Rect → Rect
outer_rect a b = record {
  left = int_min a.left b.left;
  top = int_min a.top b.top;
  right = int_max a.right b.right;
  bottom = int_max a.bottom b.bottom;
}
