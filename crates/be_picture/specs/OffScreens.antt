-- What the code of a bitmap off the screen stands for (this project's own).
use Rattle.std.specs.Prelude.{◌≡◌, ℕ, pos, ◌*◌, ◌/◌, ◌%◌, ◌<◌, ◌≤◌, true, List, [], ◌∷◌, map}
use Rattle.std.specs.Prelude.{length, slice_get, Option, None, unwrap_or}
use Rattle.std.specs.List.{range_with_len}
use Rattle.be_geom.specs.Rects.{rect_has}
use Rattle.be_pane.specs.declared.pane.Pane as code
use Rattle.be_pane.specs.StandsFor.{IsWhole, PaneStandsFor}
use Rattle.be_region.specs.Regions.{region_has}
use Rattle.be_span.specs.declared.Cell.{Cell}
use Rattle.be_span.specs.Screen.{cell_at}
use Rattle.be_span.specs.Spans.{Spans, black_cell, cell_in}
use Rattle.be_state.specs.Stacks.{first_stack, origin_point}
use Rattle.be_picture.specs.Playing.{OffScreen, bounds, tree_of}

-- a cell where there is one
abbrev pub or_black : Option Cell → Cell
or_black cell = unwrap_or cell black_cell

-- the cells of all pixels, in row order
abbrev pub cells_of : ℕ → ℕ → Spans → List Cell
cells_of width height spans =
    map (λ k. or_black (cell_in spans (pos (k % width)) (pos (k / width))))
    (range_with_len 0 (width * height))

-- as many cells as pixels, of which there are some and at most 256 in each direction
pub record IsSized (width height : ℕ) : Type 0 where
  pub some_columns : 1 ≤ width
  pub few_columns : width ≤ 256
  pub some_rows : 1 ≤ height
  pub few_rows : height ≤ 256

-- the pane of the one view, whose window has its left top at (0, 0), owns all pixels and has the
-- number 0
pub record Shows (pane : code.Pane) (off : OffScreen) : Type 0 where
  pub sized : IsSized off.width off.height
  pub filled : length off.cells ≡ off.width * off.height
  pub stands : PaneStandsFor pane 0 origin_point off.pane (tree_of off) (rect_has (bounds off))
      (λ x y. or_black (cell_at off.width off.cells x y))

-- what a pane is seen as
abbrev pub seen_as : ℕ → ℕ → code.Pane → OffScreen
seen_as width height pane = record {
  width = width;
  height = height;
  pane = record {
    colors = pane.colors.items;
    stacks = pane.states.items;
    session = None;
    notified = pane.notified;
  };
  cells = cells_of width height pane.spans;
}

-- what holds of each between two pictures: all was given back that was saved
pub record IsAtRest (width height : ℕ) (pane : code.Pane) : Type 0 where
  pub whole : IsWhole pane
  pub shows : Shows pane (seen_as width height pane)
  pub stacks : pane.states.items ≡ first_stack ∷ []

-- the cells of a row, from its first column to its last
pub record IsRow (spans : Spans) (y : ℕ) (row : List Cell) : Type 0 where
  pub cells : (k : ℕ) → k < length row → cell_in spans (pos k) (pos y) ≡ slice_get row k
  pub ends : cell_in spans (pos (length row)) (pos y) ≡ None
  pub run : (k : ℕ) → k < length row → region_has spans.rects (pos k) (pos y) ≡ true
