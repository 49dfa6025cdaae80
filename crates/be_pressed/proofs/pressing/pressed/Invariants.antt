-- Some letters were heard, and their lines stand.
use Rattle.be_pressed.proofs.Windows.{IsWritten}
use Rattle.be_pressed.proofs.pressing.pressed.Given as goal
use Rattle.be_script.specs.Script.{declared_by}

abbrev pub invariant-loop-letter : goal.invariant-loop-letter
invariant-loop-letter l =
    IsWritten (declared_by l.script) l.letters l.letter-index l.windows.items l.text.items
