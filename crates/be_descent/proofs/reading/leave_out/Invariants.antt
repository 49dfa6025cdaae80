use Rattle.std.proofs.Common.{◌&&◌, take}
use Rattle.be_geom.specs.Rects.{rect_has}
use Rattle.be_span.specs.Painting.{IsPainted}
use Rattle.be_descent.specs.Pieces.{nothing}
use Rattle.be_descent.specs.Places.{lies_at}
use Rattle.be_descent.proofs.reading.leave_out.Given as goal

abbrev pub invariant-loop-frame : goal.invariant-loop-frame
invariant-loop-frame l =
    IsPainted (λ x y c. nothing)
    (λ x y. rect_has l.area x y && lies_at (take l.frame-index l.frames) l.way x y) l.initial.piece
    l.piece
