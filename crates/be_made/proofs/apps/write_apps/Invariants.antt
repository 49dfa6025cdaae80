use Rattle.be_made.proofs.Loops.{Remains}
use Rattle.be_made.specs.Made.{app_text}
use Rattle.be_made.proofs.apps.write_apps.Given as goal

-- what is written and what is left to write are all
abbrev pub invariant-loop-app : goal.invariant-loop-app
invariant-loop-app l =
    Remains app_text 4 l.app l.fn.draws l.draws l.fn.text.items l.text.items
