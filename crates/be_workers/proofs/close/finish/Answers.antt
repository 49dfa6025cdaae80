use Rattle.std.proofs.Common.{Any, sym, subst, ◌∙◌}
use Rattle.std.proofs.lemmas.Bool.{false≢true}
use Rattle.std.proofs.lemmas.Result.{IfOk-weaker}
use Rattle.be_workers.specs.declared.worker.End.TheVariants as ends
use Rattle.be_workers.specs.Turned.{HasStop}
use Rattle.be_workers.specs.Workers.{CanClose, SomeEnds}
use Rattle.be_workers.proofs.close.finish.Goals as goal

pub shut-requires-clause-stops : goal.shut-requires-clause-stops
shut-requires-clause-stops g c =
    let closed = subst (SomeEnds ends.Closed) c.as_slice-2.ensures.value
    (c.some_ends-2.ensures.0 c.if-not-some_ends.false) in
    subst (Any (HasStop g.W.Turns.stops)) (sym c.take.ensures.known.ended)
    (c.join_all.ensures.stops closed)

pub returns-clause-ended : goal.returns-clause-ended
returns-clause-ended g c =
    let closed = subst (SomeEnds ends.Closed) c.as_slice-2.ensures.value
    (c.some_ends-2.ensures.0 c.if-not-some_ends.false) in
    IfOk-weaker c.shut.result _ (λ _. CanClose c.args.workers.items)
    (λ _ _. (
      λ starved. false≢true
          (sym c.if-some_ends.false
          ∙ c.some_ends.ensures.1
          (subst (SomeEnds ends.NoMemory) (sym c.as_slice.ensures.value) starved)),
      closed,
    ))
    c.shut.ensures.rules
