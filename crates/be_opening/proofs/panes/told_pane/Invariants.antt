-- What the opening shows of the window.
use Rattle.std.proofs.Common.{◌≡◌}
use Rattle.be_machine.specs.State.{opening_state}
use Rattle.be_machine.specs.Touched as part
use Rattle.be_rules.specs.Slices.{slice_of}
use Rattle.be_script.specs.Script.{declared_by}
use Rattle.be_opening.proofs.panes.told_pane.Given as goal

abbrev pub ghosts-choose : goal.ghosts-choose
ghosts-choose a = record { is = λ it. it ≡ slice_of (opening_state (declared_by a.about.now.script.value)) (part.pane a.about.now.window) }
