use Rattle.be_views.proofs.clip.+reach_of.Given as goal

abbrev pub decreases-reach_of : goal.decreases-reach_of
decreases-reach_of l = l.v
