use Rattle.std.proofs.Common.{◌≡◌, ℤ, ◌&&◌, false, take}
use Rattle.be_geom.specs.Rects.{rect_has}
use Rattle.be_descent.specs.Places.{lies_at}
use Rattle.be_descent.proofs.reading.are_apart.Given as goal

abbrev pub invariant-loop-frame : goal.invariant-loop-frame
invariant-loop-frame l =
    (x y : ℤ) → (rect_has l.area x y && lies_at (take l.frame-index l.frames) l.way x y) ≡ false
