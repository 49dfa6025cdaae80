use Rattle.std.proofs.Common.{◌≡◌, ◌≤◌, take}
use Rattle.std.specs.Prelude.{flat_map}
use Rattle.be_outside.specs.Telling.{with_end}
use Rattle.run_tests.proofs.outside.put_each.Given as goal

abbrev pub invariant-loop-piece : goal.invariant-loop-piece
invariant-loop-piece g l =
    (g.K.Sink.held l.sink ≡ with_end (g.K.Sink.held l.initial.sink) (flat_map (λ piece. piece.now) (take l.piece-index l.pieces)))
    × (g.K.Sink.faults l.initial.sink ≤ g.K.Sink.faults l.sink)
