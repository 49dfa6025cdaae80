use Rattle.std.proofs.Common.{◌≡◌, ◌∷◌, ◌⊎◌, inr, All, Any, sym, ap, ◌∙◌, subst}
use Rattle.std.proofs.lemmas.List.Elements.{All-head, All-tail}
use Rattle.std.specs.Vec.Iter.{into_iter_steps}
use Rattle.be_hall.specs.Words.{view_of}
use Rattle.be_workers.specs.declared.worker.End.TheVariants as ends
use Rattle.be_workers.specs.declared.worker.Worker.{Worker}
use Rattle.be_workers.specs.Turned.{HasStop}
use Rattle.be_workers.specs.Workers.{IsDone, SomeEnds}
use Rattle.be_workers.proofs.Ending.{joins_one}
use Rattle.be_workers.proofs.close.join_all.Goals as goal

pub loop-worker-preserved : goal.loop-worker-preserved
loop-worker-preserved g c =
    let stops = g.W.Turns.stops in
    let good = IsDone g.W.Parts.meaning stops c.args.hall.now in
    let i = c.loop-worker.invariant in
    let it = c.loop-worker.worker-iterator in
    let rest = c.next.new.self in
    let worker = c.in-Some.worker in
    let items : it.rest.items ≡ worker ∷ rest.rest.items =
    (subst (λ r. into_iter_steps it r rest) c.in-Some.is c.next.ensures.steps).0 in
    let all = subst (All good) items i.1 in
    let done = All-head good worker rest.rest.items all in
    let closed =
    λ (w : Worker g.row.W.Denot g.row.W-Part.Denot g.row.W-Entry.Denot g.row.W-Ready.Denot
    g.row.W-Meaning.Denot g.W.Parts). w.end ≡ ends.Closed in (
      (c.join.ensures.hall, ap (λ h. h.parts) c.join.ensures.held ∙ i.0.1),
      All-tail good worker rest.rest.items all,
      λ some. subst (λ l. Any (HasStop stops) l ⊎ SomeEnds ends.Closed rest.rest.items)
          (sym (ap (λ v. v.ended) c.join.ensures.both))
          (joins_one stops closed (view_of c.loop-worker.pass).ended (view_of worker.pass).ended
          (view_of worker.pass).own worker rest.rest.items it.rest.items items done.1 (i.2 some)),
    )

pub loop-worker-init : goal.loop-worker-init
loop-worker-init g c =
    let rest = c.into_iter-worker-iterator.ensures.into_iter_gives.0 in (
      c.requires.pass,
      subst (All (IsDone g.W.Parts.meaning g.W.Turns.stops c.args.hall.now))
          (sym rest) c.requires.workers,
      λ some. inr (subst (SomeEnds ends.Closed) (sym rest) some),
    )
