use Rattle.be_views.proofs.run.+run_below.Given as goal

abbrev pub decreases-run_below : goal.decreases-run_below
decreases-run_below l = l.steps
