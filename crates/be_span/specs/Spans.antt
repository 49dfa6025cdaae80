-- A region's pixels, each with its cell: one row of cells for each row of each rectangle (this
-- project's own).
use Rattle.std.specs.Prelude.{ℕ, ℤ, pos, ◌+◌, ◌*◌, ◌+ℤ◌, ◌-ℤ◌, unsigned_abs, Bool, false, List, []}
use Rattle.std.specs.Prelude.{◌∷◌, Option, Some, None, slice_get, if◌then◌else◌, option_and_then}
use Rattle.std.specs.Option.{option_map}
use Rattle.be_geom.specs.declared.rect.Rect.{Rect}
use Rattle.be_geom.specs.Rects.{rect_has}
use Rattle.be_color.specs.declared.colors.Rgb.{Rgb}
use Rattle.be_span.specs.declared.Cell.{Cell}

-- The rectangles of a region, and the cells of its pixels: those of the first rectangle, then of
-- the second and so on, of each row by row from the top and each row from the left.
pub record Spans : Type 0 where
  pub rects : List Rect
  pub cells : List Cell

-- the pixels of one rectangle with their cells
abbrev pub block : Rect → List Cell → Spans
block r cells = record { rects = r ∷ []; cells = cells }

-- a rectangle of a region
pub record SpanAt : Type 0 where
  pub rect : Rect

-- how many columns a rectangle has that isn't empty, and how many rows
abbrev pub width_of : Rect → ℕ
width_of r = unsigned_abs (r.right -ℤ r.left +ℤ pos 1)

abbrev pub height_of : Rect → ℕ
height_of r = unsigned_abs (r.bottom -ℤ r.top +ℤ pos 1)

-- how many pixels
unfoldable pub area_of : Rect → ℕ
area_of r = height_of r * width_of r

-- how many pixels they all have
abbrev pub pixels_of : List Rect → ℕ
pixels_of [] = 0
pixels_of (r ∷ rs) = area_of r + pixels_of rs

-- how many cells of a rectangle come before the one of its pixel (x, y)
unfoldable pub place_in : Rect → ℤ → ℤ → ℕ
place_in r x y = unsigned_abs (y -ℤ r.top) * width_of r + unsigned_abs (x -ℤ r.left)

-- how many cells of all come before it; none where no rectangle has the pixel
abbrev pub place_of : List Rect → ℤ → ℤ → Option ℕ
place_of [] x y = None
place_of (r ∷ rs) x y =
    if rect_has r x y then Some (place_in r x y)
    else option_map (λ n. area_of r + n) (place_of rs x y)

-- the cell of a pixel; none outside the region
unfoldable pub cell_in : Spans → ℤ → ℤ → Option Cell
cell_in s x y = option_and_then (slice_get s.cells) (place_of s.rects x y)

-- this colour, and nothing waits
abbrev pub clean_cell : Rgb → Cell
clean_cell rgb = record { rgb = rgb; dirty = false }

-- black, and nothing waits
abbrev pub black_cell : Cell
black_cell = record { rgb = record { red = 0; green = 0; blue = 0 }; dirty = false }

-- whether a pixel has a cell that waits to be drawn
abbrev pub is_dirty : Option Cell → Bool
is_dirty (Some c) = c.dirty
is_dirty None = false

-- the cell that one of them has where both have one; else the second's answer
abbrev pub laid : Option Cell → Option Cell → Option Cell
laid (Some c) (Some d) = Some c
laid (Some c) None = None
laid None d = d
