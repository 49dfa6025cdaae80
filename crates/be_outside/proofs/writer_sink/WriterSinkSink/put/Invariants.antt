use Rattle.std.proofs.Common.{◌≡◌, ◌≤◌, ◌-◌, length, take}
use Rattle.std.specs.Io.KnownBytes.{Appends}
use Rattle.be_outside.proofs.writer_sink.WriterSinkSink.put.Given as goal

abbrev pub invariant-loop-done : goal.invariant-loop-done
invariant-loop-done g l =
    (l.done ≤ length l.piece)
    × (l.self-inside.faults ≡ l.initial.self-inside.faults)
    × Appends (g.W.Write.contents l.initial.self-inside.writer) (g.W.Write.contents l.self-inside.writer) (take l.done l.piece)

abbrev pub decreases-loop-done : goal.decreases-loop-done
decreases-loop-done g l = length l.piece - l.done
