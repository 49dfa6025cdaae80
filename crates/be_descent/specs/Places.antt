-- Rectangles and regions that lie so far right and so far down (this project's own).
use Rattle.std.specs.Prelude.{◌≡◌, ◌-◌, ◌≤◌, ◌<◌, ℕ, ℤ, pos, ◌+ℤ◌, ◌-ℤ◌, ◌<ℤ◌, ◌⊎◌}
use Rattle.std.specs.Prelude.{Bool, true, false, ◌&&◌, ◌||◌}
use Rattle.std.specs.Prelude.{List, Option, length, slice_index_or, take}
use Rattle.std.specs.Int.{int_max}
use Rattle.be_geom.specs.declared.rect.Rect.{Rect}
use Rattle.be_geom.specs.Rects.{rect_has}
use Rattle.be_region.specs.Regions.{region_has, IsNotEmpty}
use Rattle.be_state.specs.Stacks.{clip_has}
use Rattle.be_descent.specs.declared.way.Way.{Way}
use Rattle.be_descent.specs.declared.walk.Found.{Found}

-- a pixel is in the rectangle, which lies that way
abbrev pub has_moved : Rect → Way → ℤ → ℤ → Bool
has_moved r way x y = rect_has r (x -ℤ way.right) (y -ℤ way.down)

-- a pixel is in the region, which lies that way
abbrev pub lies_at : List Rect → Way → ℤ → ℤ → Bool
lies_at rs way x y = region_has rs (x -ℤ way.right) (y -ℤ way.down)

-- a pixel is in the region of a session, which lies that way; with no session there is no limit
abbrev pub session_has : Option (List Rect) → Way → ℤ → ℤ → Bool
session_has session way x y = clip_has session (x -ℤ way.right) (y -ℤ way.down)

-- no pixel of the area is in the rectangle, which lies that way
abbrev pub IsBeside : Rect → Rect → Way → Type 0
IsBeside area r way = (x y : ℤ) → (rect_has area x y && has_moved r way x y) ≡ false

-- The row from which on the rectangles behind one that is beside the area may have pixels of the
-- area: the one below it where the area is left of it, and else its first row or the area's.
abbrev pub IsStartRow : Rect → Rect → Way → ℤ → Type 0
IsStartRow area r way y =
    (((area.right -ℤ way.right) <ℤ r.left) × (y ≡ r.bottom +ℤ pos 1))
    ⊎ (y ≡ int_max r.top (area.top -ℤ way.down))

-- the part has those pixels of the area that are in the rectangle, which lies that way
pub record IsPartOf (part area r : Rect) (way : Way) : Type 0 where
  pub some : IsNotEmpty part
  pub both : (x y : ℤ) → rect_has part x y ≡ (rect_has area x y && has_moved r way x y)

-- no pixel of the area is in a rectangle of the region from this place on
abbrev pub HasNoMore : List Rect → ℕ → Way → Rect → Type 0
HasNoMore rs from way area =
    (x y : ℤ) → rect_has area x y ≡ true → lies_at rs way x y ≡ lies_at (take from rs) way x y

-- The rectangle before the other place is the first one, from this place on, that has pixels of the
-- area, and the part has them.
pub record IsNext (rs : List Rect) (from : ℕ) (way : Way) (area : Rect) (found : Found)
    : Type 0 where
  pub ahead : from < found.after
  pub there : found.after ≤ length rs
  pub some : IsNotEmpty found.part
  pub inside : (x y : ℤ) → rect_has found.part x y ≡ true → rect_has area x y ≡ true
  pub one : (d : Rect) (x y : ℤ) → rect_has found.part x y ≡ true
      → has_moved (slice_index_or rs (found.after - 1) d) way x y ≡ true
  pub apart : (x y : ℤ) → rect_has found.part x y ≡ true
      → lies_at (take from rs) way x y ≡ false
  pub up_to : (x y : ℤ) → rect_has area x y ≡ true
      → lies_at (take found.after rs) way x y
      ≡ (lies_at (take from rs) way x y || rect_has found.part x y)
