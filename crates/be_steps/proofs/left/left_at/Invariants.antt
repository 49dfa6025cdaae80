use Rattle.be_script.specs.Script.{declared_by}
use Rattle.be_steps.specs.Steps.{LeavesAt}
use Rattle.be_steps.proofs.left.left_at.Given as goal

abbrev pub ghosts-choose : goal.ghosts-choose
ghosts-choose a = record { is = λ it. LeavesAt (declared_by a.about.now.script.value) a.about.now.before.value.value.parts a.about.now.who a.about.now.place it }
