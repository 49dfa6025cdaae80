use Rattle.std.proofs.Common.{◌≡◌, ◌-◌, ◌≤◌, ℤ, true, length, take}
use Rattle.be_geom.specs.Rects.{rect_has}
use Rattle.be_descent.specs.Places.{lies_at}
use Rattle.be_descent.proofs.walk.next_in.Given as goal

abbrev pub invariant-loop-place : goal.invariant-loop-place
invariant-loop-place l = record {
  ahead : l.from ≤ l.place;
  within : l.place ≤ length l.region;
  before : (x y : ℤ) → rect_has l.area x y ≡ true
      → lies_at (take l.place l.region) l.way x y ≡ lies_at (take l.from l.region) l.way x y;
}

abbrev pub decreases-loop-place : goal.decreases-loop-place
decreases-loop-place l = l.end - l.place
