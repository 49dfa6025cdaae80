use Rattle.be_workers.specs.Turned.{IsFree, KeepsCommits}
use Rattle.be_workers.proofs.turn.try_again.Given as goal

abbrev pub invariant-loop-micros : goal.invariant-loop-micros
invariant-loop-micros g l =
    IsFree g.W.Parts.meaning l.fn.hall l.pass × KeepsCommits l.initial.pass l.pass
