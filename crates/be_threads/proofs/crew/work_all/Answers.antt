use denote.Param.Send.{sendable}
use Rattle.std.proofs.Crossing.{crosses}
use Rattle.be_bells.proofs.Bells.TheSendSync as bells
use Rattle.be_hall.proofs.hall.Hall.TheSendSync as hall
use Rattle.be_workers.proofs.worker.Worker.TheSendSync as worker
use Rattle.be_threads.proofs.Crossing.{part_send, noting_sync}
use Rattle.be_threads.proofs.crew.work_all.Goals as goal

pub for_each-requires-send-T : goal.for_each-requires-send-T
for_each-requires-send-T g c κs =
    search (sendable, crosses, worker.the_send, part_send) depth 20

pub for_each-requires-sync-F : goal.for_each-requires-sync-F
for_each-requires-sync-F g c κs =
    search (sendable, crosses, hall.the_sync, bells.the_sync, part_send, noting_sync) depth 20
