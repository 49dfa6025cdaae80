use Rattle.std.proofs.Common.{◌≡◌}
use Rattle.be_hall.specs.Passes.{IsOf, IsAlike}
use Rattle.be_hall.proofs.hall.Hall.take_one.Given as goal

abbrev pub invariant-loop : goal.invariant-loop
invariant-loop g l =
    IsOf g.P.Parts.meaning l.fn.self.table.shared.table_id l.fn.self.table.shared.key l.pass.seat × IsAlike l.initial.pass.seat.me.0 l.pass.seat.me.0
    × (l.pass.held ≡ l.initial.pass.held)
