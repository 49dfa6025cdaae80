use Rattle.be_region.proofs.WalkLemmas.{AreRowsMade, rows_left}
use Rattle.be_region.proofs.walk.walked.Given as goal

abbrev pub invariant-walk : goal.invariant-walk
invariant-walk l = AreRowsMade l.rule l.fn.rects.items l.fn.one l.fn.other l.bands l.one l.other l.y

abbrev pub decreases-walk : goal.decreases-walk
decreases-walk l = rows_left l.y
