use Rattle.std.proofs.Common.{◌≡◌, ◌++◌, map, take, drop}
use Rattle.be_geom.specs.Rects.{moved_rect}
use Rattle.be_region.proofs.edges.move_all.Given as goal

abbrev pub invariant-loop-rect : goal.invariant-loop-rect
invariant-loop-rect l = l.rects ≡ map (λ r. moved_rect r l.dx l.dy) (take l.rect-index l.initial.rects) ++ drop l.rect-index l.initial.rects
