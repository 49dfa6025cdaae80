use Rattle.be_made.proofs.Loops.{Remains}
use Rattle.be_made.specs.Made.{body_text}
use Rattle.be_made.proofs.windows.write_bodies.Given as goal

-- what is written and what is left to write are all
abbrev pub invariant-loop-window : goal.invariant-loop-window
invariant-loop-window l =
    Remains body_text 8 l.window l.fn.draws l.draws l.fn.text.items l.text.items
