use Rattle.be_world.specs.Marks.{IsTwin, Marks}
use Rattle.be_world.proofs.marks.mark_twins.Given as goal

abbrev pub invariant-loop-window : goal.invariant-loop-window
invariant-loop-window l = Marks (IsTwin l.apps l.window) l.fn.marks l.marks
