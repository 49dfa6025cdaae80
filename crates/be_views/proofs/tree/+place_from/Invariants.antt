use Rattle.be_views.proofs.tree.+place_from.Given as goal

abbrev pub decreases-place_from : goal.decreases-place_from
decreases-place_from l = l.steps
