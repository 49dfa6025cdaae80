use Rattle.std.proofs.Common.{◌≡◌, ◌≤◌, length, vec_capacity}
use Rattle.be_hall.specs.Hands.{up_from}
use Rattle.be_workers.proofs.close.all_places.Given as goal

abbrev pub invariant-loop-place : goal.invariant-loop-place
invariant-loop-place l =
    (l.all.items ≡ up_from 0 l.place) × (length l.all.items ≡ l.place)
    × (l.fn.places ≤ vec_capacity l.all)
