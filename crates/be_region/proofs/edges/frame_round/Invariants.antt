use Rattle.std.proofs.Common.{◌∷◌, take}
use Rattle.be_region.specs.Frames.{IsFrame}
use Rattle.be_region.proofs.edges.frame_round.Given as goal

abbrev pub invariant-loop-rect : goal.invariant-loop-rect
invariant-loop-rect l = IsFrame l.frame (l.fn.first ∷ take l.rect-index l.others)
