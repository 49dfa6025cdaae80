use Rattle.std.proofs.Common.{◌≡◌, ◌≤◌, ◌-◌, length}
use Rattle.be_hall.specs.Words.{IsPassOf, rules_of}
use Rattle.be_workers.specs.Turned.{HasThem, KeepsCommits}
use Rattle.be_workers.specs.Wanted.{IsChosen, Suits, added, wanted}
use Rattle.be_workers.proofs.turn.take_turn.Given as goal

abbrev pub invariant-loop-rules : goal.invariant-loop-rules
invariant-loop-rules g l =
    IsPassOf g.W.Parts.meaning l.fn.hall l.pass
    × HasThem g.W.Parts.machine g.W.Parts.meaning l.fn.hall (wanted l.wants) l.has l.pass
    × Suits g.W.Parts.machine g.W.Turns.owns (rules_of l.fn.hall) l.wants
    × IsChosen g.W.Parts.machine g.W.Turns.owns (rules_of l.fn.hall) l.fn.who l.wants
    × (length (added l.wants) ≤ length (wanted l.wants))
    × KeepsCommits l.initial.pass l.pass
    × (l.rules ≡ rules_of l.fn.hall)

abbrev pub decreases-loop-rules : goal.decreases-loop-rules
decreases-loop-rules g l = (g.W.Parts.machine (rules_of l.fn.hall)).places - length (wanted l.wants)
