-- What a part has of the screen's pixels (this project's own).
use Rattle.std.specs.Prelude.{◌≡◌, ◌<◌, ◌+◌, ℕ, ℤ, pos, List, length, Option, None, slice_get}
use Rattle.be_span.specs.declared.Cell.{Cell}
use Rattle.be_rules.specs.Slices.{Slice, desk, input, cell, looper, port, link, pane, look_at}

-- the cell of a pixel that a slice has; only a pane has any
abbrev pub pixel_in : Slice → ℤ → ℤ → Option Cell
pixel_in (pane w shown) x y = look_at shown.width shown.cells x y
pixel_in (desk d) x y = None
pixel_in (input n b) x y = None
pixel_in (cell m a) x y = None
pixel_in (looper w l b) x y = None
pixel_in (port w p) x y = None
pixel_in (link w l) x y = None

-- it has none of so many pixels from this one on to the right
abbrev pub HasNone : Slice → ℕ → ℕ → ℕ → Type 0
HasNone slice x y n = (k : ℕ) → k < n → pixel_in slice (pos (x + k)) (pos y) ≡ None

-- it has the pixels from this one on to the right, with these cells
abbrev pub HasCells : Slice → ℕ → ℕ → List Cell → Type 0
HasCells slice x y cells =
    (k : ℕ) → k < length cells → pixel_in slice (pos (x + k)) (pos y) ≡ slice_get cells k
