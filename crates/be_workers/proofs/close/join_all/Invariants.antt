use Rattle.std.proofs.Common.{◌⊎◌, All, Any}
use Rattle.be_hall.specs.Words.{view_of}
use Rattle.be_workers.specs.declared.worker.End.TheVariants as ends
use Rattle.be_workers.specs.Turned.{HasStop, IsFree}
use Rattle.be_workers.specs.Workers.{IsDone, SomeEnds}
use Rattle.be_workers.proofs.close.join_all.Given as goal

abbrev pub invariant-loop-worker : goal.invariant-loop-worker
invariant-loop-worker g l =
    IsFree g.W.Parts.meaning l.fn.hall l.pass
    × All (IsDone g.W.Parts.meaning g.W.Turns.stops l.fn.hall) l.worker-iterator.rest.items
    × (SomeEnds ends.Closed l.fn.workers.items → Any (HasStop g.W.Turns.stops)
    (view_of l.pass).ended ⊎ SomeEnds ends.Closed l.worker-iterator.rest.items)
