use Rattle.be_workers.specs.Workers.{StaysWorker}
use Rattle.be_workers.proofs.worker.Worker.labour.Given as goal

abbrev pub invariant-loop : goal.invariant-loop
invariant-loop g l =
    (goal.iterator-loop g).can_next l.iterator' × (goal.iterator-loop g).is_finite l.iterator'
    × StaysWorker g.W.Parts.machine g.W.Parts.meaning g.W.Turns.owns g.W.Turns.activities l.fn.hall l.initial.self
    l.self
