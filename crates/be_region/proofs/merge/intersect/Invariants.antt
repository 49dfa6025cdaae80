use Rattle.std.proofs.Common.{◌+◌, length}
use Rattle.be_region.proofs.MergeLemmas.{AreMet}
use Rattle.be_region.proofs.merge.intersect.Given as goal

abbrev pub invariant-rects : goal.invariant-rects
invariant-rects l = AreMet l.fn.one l.fn.other l.spans.items l.one l.other

abbrev pub decreases-rects : goal.decreases-rects
decreases-rects l = length l.one + length l.other
