use Rattle.std.proofs.Common.{◌≡◌, ◌++◌, map, vec_capacity}
use Rattle.be_hall.specs.Logs.{flat}
use Rattle.be_hall.proofs.close.unlog_parts.Given as goal

abbrev pub invariant-loop-part : goal.invariant-loop-part
invariant-loop-part g l =
    (map g.P.Parts.meaning l.parts.items ≡ map g.P.Parts.meaning l.initial.parts.items ++ map g.P.Parts.meaning l.yielded)
    × (l.pairs.items ≡ l.initial.pairs.items ++ flat (map g.P.Parts.log l.yielded))
    × (l.yielded ++ l.part-iterator.rest.items ≡ l.fn.old.items)
    × (vec_capacity l.parts ≡ vec_capacity l.initial.parts) × (vec_capacity l.pairs ≡ vec_capacity l.initial.pairs)
