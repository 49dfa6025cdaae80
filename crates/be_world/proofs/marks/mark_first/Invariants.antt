use Rattle.std.specs.Prelude.{◌<◌}
use Rattle.be_world.specs.Marks.{Marks}
use Rattle.be_world.proofs.marks.mark_first.Given as goal

abbrev pub invariant-loop-a : goal.invariant-loop-a
invariant-loop-a l = Marks (λ a. a < l.a) l.fn.marks l.marks
