use Rattle.std.proofs.Common.{◌≡◌, take, vec_capacity}
use Rattle.be_workers.proofs.wants.copy.Given as goal

abbrev pub invariant-loop-place : goal.invariant-loop-place
invariant-loop-place l =
    (l.list.items ≡ take l.place-index l.places)
    × (vec_capacity l.list ≡ vec_capacity l.initial.list)
