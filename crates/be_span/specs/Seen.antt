-- What a region shows of cells that are kept for more pixels than its own (this project's own).
use Rattle.std.specs.Prelude.{◌≡◌, ℕ, zero, suc, ℤ, pos, ◌+ℤ◌, true, false, List, [], ◌∷◌, ◌++◌}
use Rattle.std.specs.Prelude.{Option, Some, None, length, count_by, vec_capacity, ◌≤◌}
use Rattle.std.specs.Global.{Vec}
use Rattle.be_geom.specs.declared.rect.Rect.{Rect}
use Rattle.be_geom.specs.Rects.{moved_rect, rect_has}
use Rattle.be_region.specs.Bands.{AreBands}
use Rattle.be_region.specs.Regions.{IsNotEmpty, region_has}
use Rattle.be_span.specs.declared.Cell.{Cell}
use Rattle.be_span.specs.Cells.{Lookup}
use Rattle.be_span.specs.Spans.{Spans, cell_in, is_dirty, black_cell, pixels_of, area_of}
use Rattle.be_span.specs.Spans.{width_of, height_of}

-- each pixel of a rectangle has one of the cells, and so many of them are dirty
pub record IsGrid (frame : Rect) (cells : List Cell) (dirty : ℕ) : Type 0 where
  pub some : IsNotEmpty frame
  pub whole : length cells ≡ area_of frame
  pub counted : dirty ≡ count_by (λ c. c.dirty) cells

-- a cell, or a black one where there is none
abbrev pub or_black : Option Cell → Cell
or_black (Some c) = c
or_black None = black_cell

-- the cells of so many pixels from (x, y) on to the right
abbrev pub cells_right : Lookup → ℤ → ℤ → ℕ → List Cell
cells_right at x y zero = []
cells_right at x y (suc n) = or_black (at x y) ∷ cells_right at (x +ℤ pos 1) y n

-- of so many rows of this width, the first of which begins at (x, y)
abbrev pub cells_down : Lookup → ℤ → ℤ → ℕ → ℕ → List Cell
cells_down at x y width zero = []
cells_down at x y width (suc n) =
    cells_right at x y width ++ cells_down at x (y +ℤ pos 1) width n

-- of the pixels of each rectangle
abbrev pub cells_at : Lookup → List Rect → List Cell
cells_at at [] = []
cells_at at (r ∷ rs) = cells_down at r.left r.top (width_of r) (height_of r) ++ cells_at at rs

-- the pixels of a region with the cells that are kept for them
unfoldable pub seen : List Rect → Spans → Spans
seen rs kept = record { rects = rs; cells = cells_at (cell_in kept) rs }

-- cells are kept for the pixels of a rectangle, a region's among them, and no other pixel's is dirty
pub record IsSeen (rs : List Rect) (kept : Spans) : Type 0 where
  pub bands : AreBands rs
  pub frame : Rect
  pub framed : kept.rects ≡ frame ∷ []
  pub some : IsNotEmpty frame
  pub inside : (x y : ℤ) → region_has rs x y ≡ true → region_has kept.rects x y ≡ true
  pub whole : length kept.cells ≡ pixels_of kept.rects
  pub outside : (x y : ℤ) → region_has rs x y ≡ false → is_dirty (cell_in kept x y) ≡ false

-- the moved rectangle is in range, and has each pixel of the inner one
pub record IsRound (rect : Rect) (dx dy : ℤ) (inner moved : Rect) : Type 0 where
  pub goes : moved ≡ moved_rect rect dx dy
  pub round : (x y : ℤ) → rect_has inner x y ≡ true → rect_has moved x y ≡ true

-- a region, a rectangle that has all of its pixels, and room for the cells of that
pub record IsReady (region : List Rect) (frame : Rect) (room : Vec Cell) : Type 0 where
  pub bands : AreBands region
  pub some : IsNotEmpty frame
  pub holds : (x y : ℤ) → region_has region x y ≡ true → rect_has frame x y ≡ true
  pub none : length room.items ≡ 0
  pub fits : area_of frame ≤ vec_capacity room
