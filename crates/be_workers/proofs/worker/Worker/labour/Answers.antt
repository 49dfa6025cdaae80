use Rattle.std.proofs.Common.{sym, subst}
use Rattle.be_workers.specs.Turned.{HasStop}
use Rattle.be_workers.proofs.worker.Worker.labour.Goals as goal

pub returns-in-Ok-Closed-clause-closed : goal.returns-in-Ok-Closed-clause-closed
returns-in-Ok-Closed-clause-closed g c = λ closed.
    subst (HasStop g.W.Turns.stops) (sym c.end_all.ensures.kept.0)
    (rw c.in-Ok-Closed.field-0-is at c.in-Ok-Closed.ensures.closed)
