-- Some views have heard the letter.
use Rattle.be_pressed.proofs.Heard.{IsHearing}
use Rattle.be_pressed.proofs.hearing.hear_each.Given as goal

abbrev pub invariant-loop-v : goal.invariant-loop-v
invariant-loop-v l = IsHearing l.letter l.initial.buttons l.v l.buttons l.invoked
