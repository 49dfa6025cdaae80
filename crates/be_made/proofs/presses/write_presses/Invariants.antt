use Rattle.be_made.proofs.Loops.{Remains}
use Rattle.be_made.specs.Made.{press_text}
use Rattle.be_made.proofs.presses.write_presses.Given as goal

-- what is written and what is left to write are all
abbrev pub invariant-loop-press : goal.invariant-loop-press
invariant-loop-press l =
    Remains press_text 20 l.press l.fn.draws l.draws l.fn.text.items l.text.items
