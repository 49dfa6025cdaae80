use Rattle.std.proofs.Common.{rules, ◌++◌, ◌∷◌, [], ◌≡◌, true, sym, subst, slice_index_or}
use Rattle.be_hall.specs.Hands.{rises_from}
use Rattle.be_hall.proofs.Rising.{rises_take}
use Rattle.be_hall.proofs.hall.Hall.try_take.Goals as goal

pub try_one-requires-clause-above : goal.try_one-requires-clause-above
try_one-requires-clause-above g c = subst (λ l. rises_from 0 (l ++ slice_index_or c.args.places.now c.loop-i.i 0 ∷ []) ≡ true) (sym c.loop-i.invariant.3) (rises_take 0 c.args.places.now c.loop-i.i (search rules) c.requires.rising)
