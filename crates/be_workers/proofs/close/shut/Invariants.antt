use Rattle.std.proofs.Common.{◌≡◌}
use Rattle.be_hall.specs.Words.{IsPassOf, hands_of, view_of}
use Rattle.be_workers.proofs.close.shut.Given as goal

abbrev pub invariant-loop : goal.invariant-loop
invariant-loop g l =
    (goal.iterator-loop g).can_next l.iterator' × (goal.iterator-loop g).is_finite l.iterator'
    × (l.open.0 ≡ l.fn.hall) × IsPassOf g.W.Parts.meaning l.fn.hall l.open.1
    × (hands_of l.open.1 ≡ hands_of l.fn.pass) × (view_of l.open.1 ≡ view_of l.fn.pass)
