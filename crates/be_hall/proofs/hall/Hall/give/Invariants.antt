use Rattle.std.proofs.Common.{◌≡◌, length}
use Rattle.be_hall.specs.Passes.{IsOf, IsAlike}
use Rattle.be_hall.proofs.hall.Hall.give.Given as goal

abbrev pub invariant-loop-pass : goal.invariant-loop-pass
invariant-loop-pass g l =
    IsOf g.P.Parts.meaning l.fn.self.table.shared.table_id l.fn.self.table.shared.key l.pass.seat × IsAlike l.initial.pass.seat.me.0 l.pass.seat.me.0
    × (l.pass.seat.me.0.missed ≡ l.initial.pass.seat.me.0.missed)

abbrev pub decreases-loop-pass : goal.decreases-loop-pass
decreases-loop-pass g l = length l.pass.held.parts
