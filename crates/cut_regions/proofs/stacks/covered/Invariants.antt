use Rattle.std.proofs.Common.{take}
use Rattle.be_region.specs.Regions.{SamePixels}
use Rattle.cut_regions.proofs.stacks.covered.Given as goal

abbrev pub invariant-loop-frame : goal.invariant-loop-frame
invariant-loop-frame l = SamePixels l.region (take l.frame-index l.frames)
