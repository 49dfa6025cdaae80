-- Which pixels of the window are a view's own, so that its drawing shows there (The Be Book: a view
-- draws within its frame and those of the views round it; that it never draws over its children is
-- this project's own).
use Rattle.std.specs.Prelude.{◌≡◌, ◌+◌, ◌≤◌, ℕ, ℤ, ◌-ℤ◌, Bool, true, false, not, ◌&&◌, List, length}
use Rattle.std.specs.Prelude.{Option, Some, None}
use Rattle.std.specs.List.{list_any}
use Rattle.be_geom.specs.declared.rect.Rect.{Rect}
use Rattle.be_geom.specs.Numbers.{is_number}
use Rattle.be_geom.specs.Points.{between, in_range}
use Rattle.be_geom.specs.Rects.{rect_has}
use Rattle.be_region.specs.Regions.{region_has}
use Rattle.be_views.specs.Trees.{View, Tree, lies_within}
use Rattle.be_views.specs.Pixels.{view_below, view_at}

-- the region has exactly those pixels of the window at which the view is this one
abbrev pub IsClip : Tree → ℕ → List Rect → Type 0
IsClip tree v rs = (x y : ℤ) → region_has rs x y ≡ is_number v (view_at tree x y)

-- ---- on the way to it

-- of these views one lies in view v directly, and its frame holds the pixel, in v's coordinates
abbrev pub covers : List View → ℕ → ℤ → ℤ → Bool
covers views v x y = list_any (λ view. is_number v view.parent && rect_has view.frame x y) views

-- the region's pixels have coordinates in their range
abbrev pub IsInRange : List Rect → Type 0
IsInRange rs = (x y : ℤ) → region_has rs x y ≡ true → (in_range x && in_range y) ≡ true

-- in the range of coordinates, the region has the pixels of the frame, moved by so much
abbrev pub HasPixelsMoved : List Rect → Rect → ℤ → ℤ → Type 0
HasPixelsMoved rs frame left top =
    (x y : ℤ) → (in_range x && in_range y) ≡ true
    → region_has rs x y ≡ rect_has frame (x -ℤ left) (y -ℤ top)

-- the number is between the edges, if there are any
abbrev pub edges_have : Option (ℤ × ℤ) → ℤ → Bool
edges_have (Some edges) z = between edges.0 z edges.1
edges_have None z = false

-- a pixel is in the first region where it is in the second and none of these views covers it that
-- lie in view v, whose left top is at (left, top)
abbrev pub IsUncovered : List Rect → List Rect → List View → ℕ → ℤ → ℤ → Type 0
IsUncovered rs a views v left top =
    (x y : ℤ) → region_has rs x y
    ≡ (region_has a x y && not (covers views v (x -ℤ left) (y -ℤ top)))

-- the view found is the one at which the way down from view v on ends, after as many steps as can
-- be left
abbrev pub ComesBy : Tree → ℕ → ℤ → ℤ → Option ℕ → Type 0
ComesBy tree v x y found =
    (steps : ℕ) × ((length tree ≤ steps + v) × (found ≡ Some (view_below steps tree v x y)))

-- the view found, if there is one, is neither view v nor in it at any depth
abbrev pub IsOutside : Tree → ℕ → Option ℕ → Type 0
IsOutside tree v found = (u : ℕ) → found ≡ Some u → (steps : ℕ) → lies_within steps tree v u ≡ false

-- the region has the pixels from which the way down from the root comes by view v, whose left top
-- is at (left, top)
pub record IsReach (tree : Tree) (v : ℕ) (left top : ℤ) (rs : List Rect) : Type 0 where
  pub inside : (x y : ℤ) → region_has rs x y ≡ true
      → ComesBy tree v (x -ℤ left) (y -ℤ top) (view_at tree x y)
  pub outside : (x y : ℤ) → region_has rs x y ≡ false → IsOutside tree v (view_at tree x y)
