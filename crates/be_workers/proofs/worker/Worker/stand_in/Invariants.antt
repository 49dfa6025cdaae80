use Rattle.be_workers.specs.Workers.{StaysWorker}
use Rattle.be_workers.proofs.worker.Worker.stand_in.Given as goal

abbrev pub invariant-loop-who : goal.invariant-loop-who
invariant-loop-who g l =
    StaysWorker g.W.Parts.machine g.W.Parts.meaning g.W.Turns.owns g.W.Turns.activities l.fn.hall l.initial.self
    l.self
