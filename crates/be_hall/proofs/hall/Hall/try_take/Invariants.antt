use Rattle.std.proofs.Common.{◌≡◌, take}
use Rattle.be_hall.specs.Hands.{places_of}
use Rattle.be_hall.specs.Passes.{IsOf, IsAlike}
use Rattle.be_hall.proofs.hall.Hall.try_take.Given as goal

abbrev pub invariant-loop-i : goal.invariant-loop-i
invariant-loop-i g l =
    IsOf g.P.Parts.meaning l.fn.self.table.shared.table_id l.fn.self.table.shared.key l.pass.seat × IsAlike l.initial.pass.seat.me.0 l.pass.seat.me.0
    × (l.pass.seat.me.0.missed ≡ l.initial.pass.seat.me.0.missed) × (places_of l.pass.held.parts ≡ take l.i l.fn.places)
