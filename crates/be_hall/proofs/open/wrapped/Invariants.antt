use Rattle.std.proofs.Common.{◌≡◌, ◌≤◌, ◌++◌, map, length, Some, vec_capacity}
use Rattle.be_hall.proofs.open.wrapped.Given as goal

abbrev pub invariant-loop-part : goal.invariant-loop-part
invariant-loop-part g l = (l.slots.items ≡ map Some l.yielded) × (l.yielded ++ l.part-iterator.rest.items ≡ l.fn.parts.items) × (length l.fn.parts.items ≤ vec_capacity l.slots)
