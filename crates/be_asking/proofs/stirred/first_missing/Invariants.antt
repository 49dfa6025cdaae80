-- The panes of the windows before this one are in hand.
use Rattle.be_script.specs.Script.{declared_by}
use Rattle.be_asking.proofs.StirredAnswered.{AreThere}
use Rattle.be_asking.proofs.stirred.first_missing.Given as goal

abbrev pub invariant-loop-window : goal.invariant-loop-window
invariant-loop-window l = AreThere (declared_by l.script) l.held.parts l.names l.window-index
