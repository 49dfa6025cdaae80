use Rattle.be_desk.specs.Desks.{desk_of}
use Rattle.desk_screen.proofs.CarriedLemmas.{AreCarriedTo}
use Rattle.desk_screen.proofs.changing.carry_out.Given as goal

abbrev pub invariant-loop-number : goal.invariant-loop-number
invariant-loop-number l = AreCarriedTo (desk_of l.desk) l.fn.plan l.plan l.initial.panes l.panes l.number
