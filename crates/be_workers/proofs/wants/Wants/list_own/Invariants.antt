use Rattle.std.proofs.Common.{◌≡◌, ◌≤◌, [], length}
use Rattle.be_workers.specs.Wanted.{HasRoom, wanted_below}
use Rattle.be_workers.proofs.wants.Wants.list_own.Given as goal

abbrev pub invariant-loop-place : goal.invariant-loop-place
invariant-loop-place g l =
    HasRoom l.self (g.W.Parts.machine l.rules).places
    × (length l.self.own.items ≤ l.place)
    × (l.self.own.items ≡ wanted_below (g.W.Turns.owns l.rules l.who) [] l.place)
    × (l.self.more ≡ l.initial.self.more)
