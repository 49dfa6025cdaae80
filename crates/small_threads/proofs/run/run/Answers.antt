use Rattle.std.proofs.Common.{IfOk, ap, map, subst}
use Rattle.be_hall.specs.Words.{opened}
use Rattle.be_turns.specs.Turning.{IsFinished}
use Rattle.small_world.specs.Counting.{is_close, passing}
use Rattle.small_world.specs.Counters.{count_of}
use Rattle.small_threads.proofs.run.run.Goals as goal

pub returns-clause-finished : goal.returns-clause-finished
returns-clause-finished g c =
    let hall = c.in_ok-hall.hall in
    let begun = ap (λ about. about.opening) c.in_ok-hall.ensures.opened in
    let ran = subst (λ w. IfOk c.finish.result (λ r. IsFinished (passing w) (λ step. is_close step)
    (opened count_of hall).opening r.history.items (map count_of r.parts.items)))
    c.in_ok-hall.ensures.rules c.finish.ensures.finished in
    subst (λ counts. IfOk c.finish.result (λ r. IsFinished (passing c.args.world)
    (λ step. is_close step) counts r.history.items (map count_of r.parts.items))) begun ran
