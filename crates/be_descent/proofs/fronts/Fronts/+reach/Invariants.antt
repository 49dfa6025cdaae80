use Rattle.be_descent.proofs.fronts.Fronts.+reach.Given as goal

abbrev pub decreases-reach : goal.decreases-reach
decreases-reach l = l.view
