-- Sets of pixels as lists of rectangles, and what the calls make of them (The Be Book: BRegion,
-- Include, Exclude, IntersectWith, OffsetBy, Contains; that a set that leaves the range isn't moved
-- is this project's own).
use Rattle.std.specs.Prelude.{◌≡◌, ℤ, ◌+ℤ◌, ◌-ℤ◌, ◌≤ℤ◌, Bool, true, false, not, ◌&&◌, ◌||◌, List}
use Rattle.std.specs.List.{list_any}
use Rattle.be_geom.specs.declared.rect.Rect.{Rect}
use Rattle.be_geom.specs.Points.{in_range}
use Rattle.be_geom.specs.Rects.{rect_has}

-- the pixel (x, y) is in the region: some rectangle has it
abbrev pub region_has : List Rect → ℤ → ℤ → Bool
region_has rs x y = list_any (λ r. rect_has r x y) rs

-- no pixel is in the region
abbrev pub HasNone : List Rect → Type 0
HasNone rs = (x y : ℤ) → region_has rs x y ≡ false

-- the region has the pixels of the rectangle
abbrev pub HasPixelsOf : List Rect → Rect → Type 0
HasPixelsOf rs r = (x y : ℤ) → region_has rs x y ≡ rect_has r x y

-- the same pixels are in both regions
abbrev pub SamePixels : List Rect → List Rect → Type 0
SamePixels a b = (x y : ℤ) → region_has a x y ≡ region_has b x y

-- a pixel is in the first region where it is in a or in b
abbrev pub IsUnion : List Rect → List Rect → List Rect → Type 0
IsUnion rs a b = (x y : ℤ) → region_has rs x y ≡ (region_has a x y || region_has b x y)

-- a pixel is in the first region where it is in a and not in b
abbrev pub IsDifference : List Rect → List Rect → List Rect → Type 0
IsDifference rs a b = (x y : ℤ) → region_has rs x y ≡ (region_has a x y && not (region_has b x y))

-- a pixel is in the first region where it is in a and in b
abbrev pub IsIntersection : List Rect → List Rect → List Rect → Type 0
IsIntersection rs a b = (x y : ℤ) → region_has rs x y ≡ (region_has a x y && region_has b x y)

-- the pixels of the first region are those of the second, each dx further right and dy further down
abbrev pub IsMoved : List Rect → List Rect → ℤ → ℤ → Type 0
IsMoved rs a dx dy = (x y : ℤ) → region_has rs x y ≡ region_has a (x -ℤ dx) (y -ℤ dy)

-- moved by (dx, dy), some pixel of the region has a coordinate out of range
abbrev pub SomePixelLeaves : List Rect → ℤ → ℤ → Type 0
SomePixelLeaves rs dx dy =
    (x : ℤ) × ((y : ℤ) × ((region_has rs x y ≡ true)
    × ((in_range (x +ℤ dx) && in_range (y +ℤ dy)) ≡ false)))

-- the edges are in order, so that there is a pixel
pub record IsNotEmpty (r : Rect) : Type 0 where
  pub across : r.left ≤ℤ r.right
  pub down : r.top ≤ℤ r.bottom
