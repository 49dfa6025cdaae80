-- What a copy makes of a pixel of the screen, as it is found (this project's own).
use Rattle.std.specs.Prelude.{ℤ, ◌-ℤ◌, Bool, ◌&&◌, not, List, Some, if◌then◌else◌, option_map}
use Rattle.be_color.specs.declared.colors.Color.{Color}
use Rattle.be_descent.specs.declared.nest.Limits.{Limits}
use Rattle.be_descent.specs.declared.reach.Reach.{Reach}
use Rattle.be_descent.specs.declared.reading.Source.{Source}
use Rattle.be_descent.specs.declared.way.Way.{Way}
use Rattle.be_descent.specs.Clips.{states_allow}
use Rattle.be_descent.specs.Fronts.{shows}
use Rattle.be_descent.specs.Pieces.{put_cell, read_cell}
use Rattle.be_descent.specs.Places.{session_has}
use Rattle.be_geom.specs.declared.rect.Rect.{Rect}
use Rattle.be_region.specs.Regions.{region_has}
use Rattle.be_span.specs.Cells.{colored_as, exposed_cell}
use Rattle.be_span.specs.Painting.{Rule}
use Rattle.be_span.specs.Spans.{Spans, cell_in}

-- the window owns a pixel, by its region, and the view is at it
abbrev pub is_own : List Rect → Reach → ℤ → ℤ → Bool
is_own rects reach x y =
    region_has rects x y && shows reach.tree.now reach.view reach.window x y

-- by the old pixels: one gets the colour of the one from which the way goes to it, or is newly
-- exposed where that isn't its view's own
abbrev pub copied_by : Spans → Reach → Way → Color → Rule
copied_by old reach way color x y c =
    if is_own old.rects reach (x -ℤ way.right) (y -ℤ way.down)
    then colored_as (cell_in old (x -ℤ way.right) (y -ℤ way.down)) c
    else exposed_cell color c

-- by what is read of the old pixels
abbrev pub read_by : Spans → Source → Color → Rule
read_by old source color x y c =
    put_cell color (Some (read_cell old source (x -ℤ source.way.right) (y -ℤ source.way.down))) c

-- a pixel is in none of the frames, and every clip and the session have it
abbrev pub is_within : Limits → ℤ → ℤ → Bool
is_within limits x y =
    not (region_has limits.frames.now x y)
    && (states_allow limits.states.now limits.corner x y
    && session_has (option_map (λ r. r.now) limits.session) limits.window x y)
