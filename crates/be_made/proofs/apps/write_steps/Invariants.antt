use Rattle.be_made.proofs.Loops.{Remains}
use Rattle.be_made.specs.Made.{locked_text}
use Rattle.be_made.proofs.apps.write_steps.Given as goal

-- what is written and what is left to write are all
abbrev pub invariant-loop-step : goal.invariant-loop-step
invariant-loop-step l =
    Remains locked_text 40 l.step l.fn.draws l.draws l.fn.text.items l.text.items
