-- Pixels that are read at once for others, which lie a way from them (this project's own).
use Rattle.std.specs.Prelude.{◌≡◌, ℤ, ◌-ℤ◌, Bool, true, false, not, ◌&&◌, [], ◌∷◌, length}
use Rattle.std.specs.Prelude.{Option, Some, None, if◌then◌else◌}
use Rattle.be_geom.specs.declared.rect.Rect.{Rect}
use Rattle.be_geom.specs.Rects.{rect_has}
use Rattle.be_region.specs.Regions.{region_has}
use Rattle.be_color.specs.declared.colors.Color.{Color}
use Rattle.be_span.specs.declared.Cell.{Cell}
use Rattle.be_span.specs.Cells.{exposed_cell}
use Rattle.be_span.specs.Slices.{recolored}
use Rattle.be_span.specs.Spans.{Spans, cell_in, clean_cell, pixels_of}
use Rattle.be_descent.specs.declared.reading.Source.{Source}
use Rattle.be_descent.specs.declared.taken.Taken.{Taken}
use Rattle.be_descent.specs.Places.{has_moved, lies_at}

-- a rectangle has a pixel; none has where there is none
abbrev pub has_shown : Option Rect → ℤ → ℤ → Bool
has_shown (Some shown) x y = rect_has shown x y
has_shown None x y = false

-- a pixel is one of those that are read
abbrev pub is_source : Source → ℤ → ℤ → Bool
is_source source x y = has_shown source.shown x y && not (region_has source.frames.now x y)

-- what stands for a pixel that isn't read
abbrev pub nothing : Cell
nothing = record { rgb = record { red = 0; green = 0; blue = 0 }; dirty = true }

-- a pixel as it is read: its colour, and no mark
abbrev pub as_read : Option Cell → Cell
as_read (Some c) = clean_cell c.rgb
as_read None = nothing

-- what is read of a pixel
abbrev pub read_cell : Spans → Source → ℤ → ℤ → Cell
read_cell s source x y = if is_source source x y then as_read (cell_in s x y) else nothing

-- a piece has the pixels of the area, each with what was read for it
pub record IsRead (s : Spans) (source : Source) (area : Rect) (piece : Spans) : Type 0 where
  pub region : piece.rects ≡ area ∷ []
  pub cells : (x y : ℤ) → rect_has area x y ≡ true → cell_in piece x y
      ≡ Some (read_cell s source (x -ℤ source.way.right) (y -ℤ source.way.down))

-- each pixel of the area comes from the span, as the view shows there
pub record IsTakenWhole (s : Spans) (source : Source) (area : Rect) (taken : Taken) : Type 0 where
  pub spans : taken.spans.now ≡ s
  pub way : taken.way ≡ source.way
  pub known : (x y : ℤ) → rect_has area x y ≡ true → has_moved taken.rect taken.way x y ≡ true
  pub read : (x y : ℤ) → rect_has area x y ≡ true
      → is_source source (x -ℤ source.way.right) (y -ℤ source.way.down) ≡ true
  pub owned : (x y : ℤ) → rect_has area x y ≡ true → lies_at s.rects source.way x y ≡ true
  pub whole : length s.cells ≡ pixels_of s.rects

-- what becomes of a pixel: it gets the colour that was read for it, or is exposed where none was
abbrev pub put_cell : Color → Option Cell → Cell → Cell
put_cell color (Some read) c =
    if read.dirty then exposed_cell color c else recolored read.rgb c
put_cell color None c = c
