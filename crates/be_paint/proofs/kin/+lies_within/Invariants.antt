use Rattle.be_paint.proofs.kin.+lies_within.Given as goal

abbrev pub decreases-lies_within : goal.decreases-lies_within
decreases-lies_within l = l.steps
