use Rattle.std.proofs.Common.{rules, ◌<◌, ◌≤◌, ◌+◌, ◌++◌, ◌∷◌, [], All, length, sym, ap, subst}
use Rattle.std.proofs.Common.{◌∙◌, arith}
use Rattle.std.proofs.lemmas.List.{map-append}
use Rattle.std.proofs.lemmas.Option.{none-some}
use Rattle.std.proofs.lemmas.List.Elements.{All-push}
use Rattle.be_facts.proofs.Lists.{length_push}
use Rattle.be_hall.proofs.UpFrom.{up_snoc}
use Rattle.be_hall.specs.Words.{rules_of}
use Rattle.be_workers.specs.declared.worker.Worker.{Worker}
use Rattle.be_workers.specs.Turned.{IsFresh}
use Rattle.be_workers.specs.Wanted.{Suits}
use Rattle.be_workers.specs.Workers.{IsWorker, whose}
use Rattle.be_workers.proofs.crew.hire.Goals as goal

pub loop-who-preserved : goal.loop-who-preserved
loop-who-preserved g c =
    let i = c.loop-who.invariant in
    let hall = c.args.hall.now in
    let items = c.loop-who.workers.items in
    let old = c.in_ok-part.ensures.old in
    let part = c.in_ok-part.ensures.new.0 in
    let good = IsWorker g.W.Parts.machine g.W.Parts.meaning g.W.Turns.owns g.W.Turns.activities hall in
    let new =
    λ (w : Worker g.row.W.Denot g.row.W-Part.Denot g.row.W-Entry.Denot g.row.W-Ready.Denot
    g.row.W-Meaning.Denot g.W.Parts). IsFresh w.pass in
    let below : c.loop-who.who < g.W.Turns.activities (rules_of hall) = search rules in
    let suits : Suits g.W.Parts.machine g.W.Turns.owns (rules_of hall) c.in_ok-wants.wants = (
      search rules,
      λ who is. absurd (none-some who (sym c.in_ok-wants.ensures.unasked ∙ is)),
    ) in
    let more = c.push_reserved.ensures.items in (
      c.in_ok-part.ensures.hall,
      (ap (λ v. v.own) old ∙ i.1.0, ap (λ v. v.ended) old ∙ i.1.1),
      c.in_ok-part.ensures.held ∙ i.2,
      subst (All good) (sym more)
          (All-push good items _ i.3
          ((c.in_ok-part.ensures.new_hall, c.in_ok-part.ensures.new.1), below, suits)),
      subst (All new) (sym more)
          (All-push new items _ i.4 (ap (λ v. v.own) part, ap (λ v. v.ended) part)),
      ap whose more
          ∙ (map-append _ items _
          ∙ (ap (λ l. l ++ c.loop-who.who ∷ []) i.5 ∙ sym (up_snoc c.loop-who.who))),
      (let l = length_push items _ in let h = i.6 in subst (λ n. n ≤ c.loop-who.who + 1)
          (sym (ap length more ∙ l)) (omega arith)),
      subst (λ n. c.activities-many.result ≤ n) (sym c.push_reserved.ensures.capacity) i.7,
    )
