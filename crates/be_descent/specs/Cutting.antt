-- How a rectangle is cut at the edges of a frame in front (this project's own).
use Rattle.std.specs.Prelude.{◌≡◌, ◌+◌, ◌<◌, ℕ, ℤ, ◌-ℤ◌, ◌≤ℤ◌, unsigned_abs, true, ◌||◌}
use Rattle.be_geom.specs.declared.rect.Rect.{Rect}
use Rattle.be_geom.specs.Rects.{rect_has, AreDisjoint}
use Rattle.be_region.specs.Regions.{IsNotEmpty}
use Rattle.be_descent.specs.declared.cutting.Cut.{Cut}
use Rattle.be_descent.specs.declared.cutting.Cut.TheVariants.{Apart, Covered, Two}

-- how many steps there are from its left top to its right bottom
abbrev pub extent_of : Rect → ℕ
extent_of r = unsigned_abs (r.right -ℤ r.left) + unsigned_abs (r.bottom -ℤ r.top)

-- two parts without a pixel in common are the rectangle together, and each is smaller than it
pub record AreHalves (area first second : Rect) : Type 0 where
  pub apart : AreDisjoint first second
  pub both : (x y : ℤ) → rect_has area x y ≡ (rect_has first x y || rect_has second x y)
  pub first_some : IsNotEmpty first
  pub second_some : IsNotEmpty second
  pub first_smaller : extent_of first < extent_of area
  pub second_smaller : extent_of second < extent_of area

-- no pixel of the frame is in the first of two such parts
pub record AreParts (area frame out rest : Rect) : Type 0 where
  pub halves : AreHalves area out rest
  pub free : AreDisjoint out frame

-- what the answer says: they have no pixel in common, the frame has the whole rectangle, or two
-- parts
abbrev pub IsCut : Rect → Rect → Cut → Type 0
IsCut area frame Apart = AreDisjoint area frame
IsCut area frame Covered = (x y : ℤ) → rect_has area x y ≡ true → rect_has frame x y ≡ true
IsCut area frame (Two out rest) = AreParts area frame out rest

-- where none is empty they have a pixel in common
pub record Meet (area frame : Rect) : Type 0 where
  pub left : area.left ≤ℤ frame.right
  pub right : frame.left ≤ℤ area.right
  pub top : area.top ≤ℤ frame.bottom
  pub bottom : frame.top ≤ℤ area.bottom
