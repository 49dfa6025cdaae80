use Rattle.be_pane.specs.StandsFor.{IsWhole}
use Rattle.play_pictures.proofs.rounds.execute_all.Given as goal

abbrev pub invariant-loop-command : goal.invariant-loop-command
invariant-loop-command l = IsWhole l.pane
