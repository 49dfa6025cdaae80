use Rattle.std.proofs.Common.{rules, take, drop, sym}
use Rattle.std.proofs.lemmas.List.{take-append-drop}
use Rattle.be_outside.specs.InMemory.{half_within}
use Rattle.be_outside.proofs.memory_sink.MemorySinkSink.put.Goals as goal

pub returns-then-begin-clause-prefix : goal.returns-then-begin-clause-prefix
returns-then-begin-clause-prefix c =
    let piece = c.args.piece.now in
    let half = half_within c.args.self.now.room piece in
    record { taken = take half piece; rest = drop half piece; parts = sym (take-append-drop half piece); put = search rules }
