use Rattle.std.proofs.Common.{◌≡◌, ◌++◌, ◌∷◌, [], true, sym, subst, arith}
use Rattle.be_hall.specs.Hands.{rises_from}
use Rattle.be_workers.proofs.Wanted.{rises_with}
use Rattle.be_workers.proofs.turn.reach.Goals as goal

pub try_more-requires-clause-above : goal.try_more-requires-clause-above
try_more-requires-clause-above g c =
    subst (λ l. rises_from 0 (l ++ c.args.place ∷ []) ≡ true) (sym c.requires.held)
    (rises_with 0 c.args.places.now c.args.place c.requires.rising
    (c.is_above.ensures.0 c.if-is_above.true) (omega arith))
