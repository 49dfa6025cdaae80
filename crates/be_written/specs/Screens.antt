-- What a screen tells of the cells in its rows (this project's own).
use Rattle.std.specs.Prelude.{ℕ, ◌≡◌, ◌+◌, ◌-◌, ◌*◌, ◌/◌, ◌%◌, ◌≤◌, ◌<◌, List, ◌∷◌, take, drop}
use Rattle.std.specs.Prelude.{length, slice_get, Option, Some}
use Rattle.std.specs.Option.{option_map}
use Rattle.be_color.specs.declared.colors.Rgb.{Rgb}
use Rattle.be_span.specs.declared.Cell.{Cell}
use Rattle.be_written.specs.ScreenText.{runs_of}
use Rattle.be_written.specs.declared.screen.Strip.{Strip}

-- the colour of the cell at a place, where one is there
abbrev pub rgb_at : List Cell → ℕ → Option Rgb
rgb_at cells k = option_map (λ c. c.rgb) (slice_get cells k)

-- the cells from one place up to another are there, and have this colour
abbrev pub AreColored : List Cell → ℕ → ℕ → Rgb → Type 0
AreColored cells from end rgb = (k : ℕ) → from ≤ k → k < end → rgb_at cells k ≡ Some rgb

-- the colour whose bytes are the lowest of a number, red before green before blue
abbrev pub tone : ℕ → Rgb
tone word = record { red = word % 256; green = word / 256 % 256; blue = word / 65536 % 256 }

-- some cells are those of a screen from a place on
abbrev pub AreCellsOf : List Cell → ℕ → List Cell → Type 0
AreCellsOf cells from some =
    (k : ℕ) → k < length some → slice_get cells (from + k) ≡ slice_get some k

-- a row of a screen so many cells wide
abbrev pub row_at : ℕ → ℕ → List Cell → List Cell
row_at width row cells = take width (drop (row * width) cells)

-- the longest run of one colour that begins at this column of the row, up to another
abbrev pub IsLongest : List Cell → ℕ → ℕ → Rgb → Type 0
IsLongest row column end rgb =
    runs_of (drop column row) ≡ record { count = end - column; rgb = rgb } ∷ runs_of (drop end row)

-- the cells that the code holds are those of a row
pub record IsStrip (width row : ℕ) (cells : List Cell) (strip : Strip) : Type 0 where
  pub within : strip.from + length strip.cells.now ≤ width
  pub told : AreCellsOf cells (row * width + strip.from) strip.cells.now
