-- Where on the screen a view is the one that shows, and what is in front of it.
use Rattle.std.specs.Prelude.{◌≡◌, ◌≤◌, ℕ, suc, ℤ, ◌-ℤ◌, Bool, true, false, not, ◌&&◌, List, length}
use Rattle.std.specs.Prelude.{◌||◌, Option, Some, count_by, nat_lt, slice_get}
use Rattle.be_geom.specs.declared.point.Point.{Point}
use Rattle.be_geom.specs.declared.rect.Rect.{Rect}
use Rattle.be_geom.specs.Numbers.{is_number}
use Rattle.be_geom.specs.Places.{IsNear}
use Rattle.be_geom.specs.Rects.{rect_has}
use Rattle.be_region.specs.Regions.{region_has, IsNotEmpty}
use Rattle.be_views.specs.Clips.{ComesBy, IsOutside}
use Rattle.be_views.specs.Pixels.{view_at}
use Rattle.be_views.specs.Trees.{Tree, View, passes_parent}
use Rattle.be_descent.specs.declared.shown.Reached.{Reached}
use Rattle.be_descent.specs.declared.way.Way.{Way}
use Rattle.be_descent.specs.Places.{has_moved}

-- the view is the one at a pixel of the screen, where the window's left top is at a point of it
abbrev pub shows : Tree → ℕ → Point → ℤ → ℤ → Bool
shows tree view window x y = is_number view (view_at tree (x -ℤ window.x) (y -ℤ window.y))

-- of the pixels of the area, the view shows at those in the box that are in none of the frames
pub record IsShown (tree : Tree) (view : ℕ) (window : Point) (area box : Rect) (frames : List Rect)
    : Type 0 where
  pub some : IsNotEmpty box
  pub pixels : (x y : ℤ) → (rect_has box x y && not (region_has frames x y))
      ≡ (rect_has area x y && shows tree view window x y)

-- ---- on the way to it

-- how many of these views lie in view v directly
abbrev pub lying : ℕ → List View → ℕ
lying v views = count_by (λ view. is_number v view.parent) views

-- how many of them lie directly in one with a number below v
abbrev pub lying_below : ℕ → List View → ℕ
lying_below v views = count_by (λ view. passes_parent (λ parent. nat_lt parent v) view.parent) views

-- The way down ends in the view that is found at a pixel. Where the test says so it comes by view
-- v, in whose coordinates the pixel is at (x, y); else it ends outside it.
pub record IsWay (tree : Tree) (v : ℕ) (x y : ℤ) (found : Option ℕ) (test : Bool) : Type 0 where
  pub inside : test ≡ true → ComesBy tree v x y found
  pub outside : test ≡ false → IsOutside tree v found

-- of the pixels of the area, the way down comes by the view at those in its box that are in none of
-- the frames, which are those of views in front of it that don't lie in it
pub record IsReached (tree : Tree) (view : ℕ) (window : Point) (area : Rect) (reached : Reached)
    (frames : List Rect) : Type 0 where
  pub some : IsNotEmpty reached.area
  pub within : (x y : ℤ) → rect_has reached.area x y ≡ true → rect_has area x y ≡ true
  pub way : (x y : ℤ) → rect_has area x y ≡ true
      → IsWay tree view (x -ℤ reached.way.right) (y -ℤ reached.way.down)
      (view_at tree (x -ℤ window.x) (y -ℤ window.y))
      (rect_has reached.area x y && not (region_has frames x y))
  pub across : IsNear (suc view) reached.way.right
  pub down : IsNear (suc view) reached.way.down
  pub few : length frames ≤ lying_below view tree

-- in the area, the new frames have the pixels of the old ones and those of a view's frame, which
-- lies that way
abbrev pub IsAdded : Tree → ℕ → Way → Rect → List Rect → List Rect → Type 0
IsAdded tree view way area old new = (w : View) (x y : ℤ) → slice_get tree view ≡ Some w
    → rect_has area x y ≡ true
    → region_has new x y ≡ (region_has old x y || has_moved w.frame way x y)
