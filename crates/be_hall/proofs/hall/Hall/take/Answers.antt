use Rattle.std.proofs.Common.{rules, ◌++◌, ◌∷◌, [], ◌≡◌, true, sym, subst, slice_index_or}
use Rattle.be_hall.specs.Hands.{rises_from}
use Rattle.be_hall.proofs.Rising.{rises_take}
use Rattle.be_hall.proofs.hall.Hall.take.Goals as goal

pub take_one-requires-clause-above : goal.take_one-requires-clause-above
take_one-requires-clause-above g c = subst (λ l. rises_from 0 (l ++ slice_index_or c.args.places.now c.loop-i.i 0 ∷ []) ≡ true) (sym c.loop-i.invariant.2) (rises_take 0 c.args.places.now c.loop-i.i (search rules) c.requires.rising)
