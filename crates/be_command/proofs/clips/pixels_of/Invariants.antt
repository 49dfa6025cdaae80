use Rattle.std.proofs.Common.{take}
use Rattle.be_region.specs.Regions.{SamePixels}
use Rattle.be_command.proofs.clips.pixels_of.Given as goal

abbrev pub invariant-loop-rect : goal.invariant-loop-rect
invariant-loop-rect l = SamePixels l.region (take l.rect-index l.rects)
