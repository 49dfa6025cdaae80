use Rattle.std.proofs.Common.{◌≡◌, ◌++◌, length, vec_capacity}
use Rattle.be_hall.proofs.close.unlog_part.Given as goal

abbrev pub invariant-loop-pair : goal.invariant-loop-pair
invariant-loop-pair g l =
    (g.P.Parts.meaning l.part ≡ g.P.Parts.meaning l.initial.part) × (l.pairs.items ++ g.P.Parts.log l.part ≡ l.initial.pairs.items ++ g.P.Parts.log l.initial.part) × (vec_capacity l.pairs ≡ vec_capacity l.initial.pairs)

abbrev pub decreases-loop-pair : goal.decreases-loop-pair
decreases-loop-pair g l = length (g.P.Parts.log l.part)
