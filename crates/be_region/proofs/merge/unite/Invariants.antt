use Rattle.std.proofs.Common.{◌+◌, length}
use Rattle.be_region.proofs.MergeLemmas.{AreUnited}
use Rattle.be_region.proofs.merge.unite.Given as goal

abbrev pub invariant-rects : goal.invariant-rects
invariant-rects l = AreUnited l.fn.one l.fn.other l.spans.items l.last l.rest.one.now l.rest.other.now

abbrev pub decreases-rects : goal.decreases-rects
decreases-rects l = length l.rest.one.now + length l.rest.other.now
