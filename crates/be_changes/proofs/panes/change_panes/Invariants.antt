use Rattle.be_changes.proofs.PanesChanged.{AreUnderWay}
use Rattle.be_changes.proofs.panes.change_panes.Given as goal
use Rattle.be_script.specs.Script.{declared_by}

abbrev pub invariant-loop-number : goal.invariant-loop-number
invariant-loop-number l = AreUnderWay (declared_by l.script) l.before.value.parts l.who l.fn.plan l.places l.fn.held l.number l.plan l.held
