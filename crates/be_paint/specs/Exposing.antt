-- In which colours pixels of the screen are newly exposed where a view is invalidated (this
-- project's own).
use Rattle.std.specs.Prelude.{ℕ, Bool, false, nat_lt, List, Option, Some, None, slice_get}
use Rattle.std.specs.Prelude.{if◌then◌else◌}
use Rattle.be_color.specs.declared.colors.Color.{Color}
use Rattle.be_span.specs.Cells.{exposed_as}
use Rattle.be_span.specs.Painting.{Rule}
use Rattle.be_views.specs.Trees.{Tree, is_at_or_below}
use Rattle.be_paint.specs.Seen.{view_on}
use Rattle.be_paint.specs.declared.reach.Reach.{Reach}

-- the colour of a view that is view v or lies in it
abbrev pub color_below : Tree → ℕ → List Color → Option ℕ → Option Color
color_below tree v colors (Some u) = if is_at_or_below tree v u then slice_get colors u else None
color_below tree v colors None = None

-- a pixel is newly exposed in the colour of the view at it
abbrev pub exposed_by : Reach → List Color → Rule
exposed_by given colors x y =
    exposed_as (color_below given.tree.now given.view colors (view_on given x y))

-- there is a view, and its number is below this one
abbrev pub is_before : ℕ → Option ℕ → Bool
is_before n (Some u) = nat_lt u n
is_before n None = false
