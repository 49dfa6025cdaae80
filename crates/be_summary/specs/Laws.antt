-- That colours are counted as they should be (this project's own).
use Rattle.std.specs.Prelude.{◌≡◌, List, length}
use Rattle.std.specs.List.{IsDistinct, list_any}
use Rattle.be_color.specs.declared.colors.Rgb.{Rgb}
use Rattle.be_span.specs.declared.Cell.{Cell}
use Rattle.be_summary.specs.Summary.{color_count, has_color}
use Rattle.be_written.specs.ScreenText.{same_rgb}

-- a list of colours in which none stands twice, and which has exactly those of the cells, is as
-- long as the cells' colours are counted
abbrev pub CountsEachOnce : Type 0
CountsEachOnce =
    (cells : List Cell) (colors : List Rgb) → IsDistinct same_rgb colors
    → ((rgb : Rgb) → list_any (same_rgb rgb) colors ≡ list_any (has_color rgb) cells)
    → color_count cells ≡ length colors
