use Rattle.std.proofs.Common.{◌≡◌, ℤ, cond, take, length}
use Rattle.std.specs.Option.{option_map}
use Rattle.be_region.specs.Regions.{region_has}
use Rattle.be_span.specs.Cells.{unmarked}
use Rattle.be_span.specs.Spans.{cell_in, pixels_of}
use Rattle.be_span.proofs.retake.unmark.Given as goal

abbrev pub invariant-loop-place : goal.invariant-loop-place
invariant-loop-place l = record {
  frame : l.grid.rects ≡ l.fn.grid.rects;
  whole : length l.grid.cells ≡ pixels_of l.grid.rects;
  cells : (x y : ℤ) → cell_in l.grid x y ≡ cond (region_has (take l.place l.region) x y) (option_map unmarked (cell_in l.fn.grid x y)) (cell_in l.fn.grid x y);
}
