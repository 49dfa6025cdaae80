-- What becomes of the cells of a window whose pixels go a way, and of which some are newly exposed
-- (this project's own).
use Rattle.std.specs.Prelude.{ℤ, ◌-ℤ◌, List, [], ◌∷◌, Option, Some, None}
use Rattle.be_geom.specs.declared.rect.Rect.{Rect}
use Rattle.be_span.specs.declared.Cell.{Cell}
use Rattle.be_span.specs.Seen.{cells_at}
use Rattle.be_span.specs.Spans.{Spans, cell_in}

-- one cell, or else another
abbrev pub first_of : Option Cell → Option Cell → Option Cell
first_of (Some c) o = Some c
first_of None o = o

-- the cell that the last of some buffers has at a pixel, or else this one
abbrev pub newest : List Spans → ℤ → ℤ → Option Cell → Option Cell
newest [] x y o = o
newest (s ∷ rest) x y o = newest rest x y (first_of (cell_in s x y) o)

-- the pixels of a region with their cells: those of the buffers, and of the others those that lay so
-- far back
abbrev pub shifted : ℤ → ℤ → List Rect → List Spans → Spans → Spans
shifted dx dy next fresh old = record {
  rects = next;
  cells = cells_at (λ x y. newest fresh x y (cell_in old (x -ℤ dx) (y -ℤ dy))) next;
}
