use Rattle.be_views.proofs.tree.+depth_from.Given as goal

abbrev pub decreases-depth_from : goal.decreases-depth_from
decreases-depth_from l = l.steps
