use Rattle.std.proofs.Common.{◌≡◌, ◌≤◌, All, length, vec_capacity}
use Rattle.be_hall.specs.Hands.{up_from}
use Rattle.be_hall.specs.Words.{IsPassOf, hands_of}
use Rattle.be_workers.specs.Turned.{IsFresh, KeepsCommits}
use Rattle.be_workers.specs.Workers.{AreWorkers, whose}
use Rattle.be_workers.proofs.crew.hire.Given as goal

abbrev pub invariant-loop-who : goal.invariant-loop-who
invariant-loop-who g l =
    IsPassOf g.W.Parts.meaning l.fn.hall l.pass × KeepsCommits l.initial.pass l.pass × (hands_of l.pass ≡ hands_of l.initial.pass)
    × AreWorkers g.W.Parts.machine g.W.Parts.meaning g.W.Turns.owns g.W.Turns.activities l.fn.hall l.workers.items
    × All (λ w. IsFresh w.pass) l.workers.items
    × (whose l.workers.items ≡ up_from 0 l.who)
    × (length l.workers.items ≤ l.who) × (l.many ≤ vec_capacity l.workers)
