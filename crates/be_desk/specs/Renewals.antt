-- The new pixels of a window in a change, told by its pane and the cells of the screen (the rule is
-- that of Changes).
use Rattle.std.specs.Prelude.{◌≡◌, ℕ, ℤ, ◌-ℤ◌, Bool, true, false, ◌&&◌, ◌==◌, All, IsSome, List}
use Rattle.std.specs.Prelude.{Option, Some, None, slice_get, option_and_then, if◌then◌else◌}
use Rattle.std.specs.List.{list_any}
use Rattle.be_geom.specs.declared.point.Point.{Point}
use Rattle.be_geom.specs.declared.rect.Rect.{Rect}
use Rattle.be_color.specs.declared.colors.Color.{Color}
use Rattle.be_color.specs.declared.colors.Color.TheVariants.{Solid, Clear}
use Rattle.be_region.specs.Regions.{region_has}
use Rattle.be_span.specs.declared.Cell.{Cell}
use Rattle.be_span.specs.Cells.{desktop_cell, exposed_as}
use Rattle.be_span.specs.Laid.{IsShift}
use Rattle.be_span.specs.Spans.{Spans, cell_in}
use Rattle.be_views.specs.Trees.{Tree, place_of}
use Rattle.be_views.specs.Pixels.{view_at}
use Rattle.be_pane.specs.declared.pane.Pane.{Pane}
use Rattle.be_desk.specs.declared.renewal.Motion.{Motion}
use Rattle.be_desk.specs.declared.renewal.Motion.TheVariants.{Still, Moving, Resizing}
use Rattle.be_desk.specs.declared.renewal.Renewal.{Renewal}
use Rattle.be_desk.specs.Changes.{is_same_place, or_exposed}

-- ---- views

-- the view at a pixel of the screen, in a window whose left top is there
abbrev pub view_from : Tree → Point → ℤ → ℤ → Option ℕ
view_from tree corner x y = view_at tree (x -ℤ corner.x) (y -ℤ corner.y)

-- the same view is at the pixel, and its left top within the window is as before
abbrev pub is_kept_view : Tree → Tree → Option ℕ → Option ℕ → Bool
is_kept_view before after (Some v) (Some u) =
    v == u && is_same_place (place_of before v) (place_of after u)
is_kept_view before after (Some v) None = false
is_kept_view before after None view = false

-- the pixel shows the same spot of the same view as before
abbrev pub shows_same_spot : Renewal → ℤ → ℤ → Bool
shows_same_spot r x y =
    is_kept_view r.pane.now.tree r.tree.now (view_from r.pane.now.tree r.pane.now.place x y)
    (view_from r.tree.now r.place x y)

-- ---- kept pixels

-- the window owned the pixel
abbrev pub owned : Renewal → ℤ → ℤ → Bool
owned r x y = region_has r.pane.now.spans.rects x y

-- the window keeps what it shows at the pixel: it owned the pixel, or the one from which a move
-- brings it, or it owned the pixel and a resize shifted nothing there
abbrev pub is_kept_by : Motion → Renewal → ℤ → ℤ → Bool
is_kept_by Still r x y = owned r x y
is_kept_by (Moving dx dy) r x y = owned r (x -ℤ dx) (y -ℤ dy)
is_kept_by Resizing r x y = owned r x y && shows_same_spot r x y

abbrev pub is_kept_at : Renewal → ℤ → ℤ → Bool
is_kept_at r x y = is_kept_by r.motion r x y

-- the cell that the window had there, or at the pixel from which a move brings it
abbrev pub brought_by : Motion → Spans → ℤ → ℤ → Option Cell
brought_by Still spans x y = cell_in spans x y
brought_by (Moving dx dy) spans x y = cell_in spans (x -ℤ dx) (y -ℤ dy)
brought_by Resizing spans x y = cell_in spans x y

abbrev pub brought_to : Renewal → ℤ → ℤ → Option Cell
brought_to r x y = brought_by r.motion r.pane.now.spans x y

-- what it keeps lay so far left and up
pub record KeepsAt (r : Renewal) (dx dy : ℤ) : Type 0 where
  pub kept : (x y : ℤ) → is_kept_at r x y ≡ owned r (x -ℤ dx) (y -ℤ dy)
  pub brought : (x y : ℤ) → brought_to r x y ≡ cell_in r.pane.now.spans (x -ℤ dx) (y -ℤ dy)

-- ---- new cells

-- the colour of the view that is at the pixel afterwards
abbrev pub color_at : Renewal → ℤ → ℤ → Option Color
color_at r x y =
    option_and_then (slice_get r.pane.now.colors.items) (view_from r.tree.now r.place x y)

-- the new cell of a pixel that had cell c: what is kept, else newly exposed in the colour of the
-- view
abbrev pub renewed_cell : Renewal → ℤ → ℤ → Cell → Cell
renewed_cell r x y c =
    or_exposed (if is_kept_at r x y then brought_to r x y else None) (exposed_as (color_at r x y) c)

-- the colour in which a pixel is newly exposed; none where it is kept
abbrev pub exposure : Renewal → ℤ → ℤ → Option Color
exposure r x y = if is_kept_at r x y then None else color_at r x y

-- what exposing makes of a cell
abbrev pub exposed_by : Renewal → ℤ → ℤ → Cell → Cell
exposed_by r x y c = exposed_as (exposure r x y) c

-- ---- what is known before

-- a way on the screen, where the window moves
abbrev pub IsNearBy : Motion → Type 0
IsNearBy Still = Unit {0}
IsNearBy (Moving dx dy) = IsShift dx × IsShift dy
IsNearBy Resizing = Unit {0}

-- each pixel of the region has a view afterwards, and the view a colour
abbrev pub AreColored : Renewal → List Rect → Type 0
AreColored r region = (x y : ℤ) → region_has region x y ≡ true → IsSome (color_at r x y)

-- the colour is transparent
abbrev pub is_clear : Color → Bool
is_clear (Solid rgb) = false
is_clear Clear = true

-- what lies under a pixel before it is exposed: some cell, and the screen's own where a colour is
-- transparent
pub record IsBackground (colors : List Color) (c : Cell) (under : Option Cell) : Type 0 where
  pub some : IsSome under
  pub clear : list_any is_clear colors ≡ true → under ≡ Some c

-- some pane of the list has the pixel
abbrev pub is_in_some : List Pane → ℤ → ℤ → Bool
is_in_some panes x y = list_any (λ pane. region_has pane.spans.rects x y) panes

-- the pixels of a pane have these cells
abbrev pub IsShown : (ℤ → ℤ → Cell) → Pane → Type 0
IsShown cells pane =
    (x y : ℤ) → region_has pane.spans.rects x y ≡ true → cell_in pane.spans x y ≡ Some (cells x y)

-- the same of each pane
abbrev pub AreShown : (ℤ → ℤ → Cell) → List Pane → Type 0
AreShown cells panes = All (IsShown cells) panes

-- the cells of the screen where these panes and the desktop are: each pane shows them, and in the
-- region the desktop does where no pane is
pub record AreUnder (panes : List Pane) (region : List Rect) (cells : ℤ → ℤ → Cell) : Type 0 where
  pub shown : AreShown cells panes
  pub desktop : (x y : ℤ) → region_has region x y ≡ true → is_in_some panes x y ≡ false
      → cells x y ≡ desktop_cell
