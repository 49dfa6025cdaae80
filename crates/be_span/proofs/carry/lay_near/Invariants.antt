use Rattle.std.proofs.Common.{◌≡◌, ℤ, ◌-ℤ◌, cond, take}
use Rattle.be_region.specs.Regions.{region_has}
use Rattle.be_span.specs.Spans.{cell_in, laid}
use Rattle.be_span.proofs.carry.lay_near.Given as goal

abbrev pub invariant-loop-place : goal.invariant-loop-place
invariant-loop-place l = record {
  region : l.to.rects ≡ l.fn.to.rects;
  cells : (x y : ℤ) → cell_in l.to x y ≡ cond (region_has (take l.place l.fn.to.rects) x y) (laid (cell_in l.fn.from (x -ℤ l.fn.way.x) (y -ℤ l.fn.way.y)) (cell_in l.fn.to x y)) (cell_in l.fn.to x y);
}
