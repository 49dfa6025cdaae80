-- The windows so far.
use Rattle.be_pressed.proofs.Opened.{AreOpened}
use Rattle.be_pressed.proofs.opening.opened.Given as goal
use Rattle.be_script.specs.Script.{declared_by}

abbrev pub invariant-loop-w : goal.invariant-loop-w
invariant-loop-w l = AreOpened (declared_by l.script) l.w l.windows.items
