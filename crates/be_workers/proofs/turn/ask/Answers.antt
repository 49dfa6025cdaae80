use Rattle.std.proofs.Common.{◌≡◌, ◌+◌, ◌==◌, ◌++◌, ◌∷◌, [], ap, ◌∙◌, subst}
use Rattle.be_hall.specs.Hands.{meant}
use Rattle.be_hall.specs.Views.{commit}
use Rattle.be_hall.specs.Words.{in_hand, rules_of, view_of}
use Rattle.be_hall.proofs.Gathered.{same_firsts}
use Rattle.be_turns.specs.Turning.{Tells}
use Rattle.be_workers.specs.Turned.{OneMore, made_by}
use Rattle.be_workers.proofs.Turned.{after_entry, legal_commit, prepared}
use Rattle.be_workers.proofs.turn.ask.Goals as goal

pub returns-in_err-ready-in-Entry-clause-places : goal.returns-in_err-ready-in-Entry-clause-places
returns-in_err-ready-in-Entry-clause-places g c = same_firsts g.W.Parts.meaning
    (in_hand c.prepare.new.pass) (in_hand c.args.pass.now) c.prepare.ensures.held

pub returns-in-Needs-2-clause-places : goal.returns-in-Needs-2-clause-places
returns-in-Needs-2-clause-places g c = same_firsts g.W.Parts.meaning
    (in_hand c.prepare.new.pass) (in_hand c.args.pass.now) c.prepare.ensures.held

pub returns-in-Ready-clause-places : goal.returns-in-Ready-clause-places
returns-in-Ready-clause-places g c = c.commit.ensures.made.same_places
    ∙ same_firsts g.W.Parts.meaning (in_hand c.prepare.new.pass) (in_hand c.args.pass.now)
    c.prepare.ensures.held

pub returns-in-Ready-clause-ok : goal.returns-in-Ready-clause-ok
returns-in-Ready-clause-ok g c =
    let machine = g.W.Parts.machine in
    let meaning = g.W.Parts.meaning in
    let rules = rules_of c.args.hall.now in
    let it = c.rules-rules.result.now in
    let x = machine rules in
    let legal = g.W.Turns.legal rules in
    let who = c.args.who in
    let told = c.in_ok-next.field-0 in
    let ready = c.in-Ready.ready in
    let held = meant meaning (in_hand c.args.pass.now) in
    let now = meant meaning (in_hand c.prepare.new.pass) in
    let by_hands =
    subst (λ h. Tells (machine it) (g.W.Turns.legal it) who (meant meaning h.parts) told)
    c.held.ensures c.in_ok-next.ensures in
    let tells = subst (λ r. Tells (machine r) (g.W.Turns.legal r) who held told)
    c.rules-rules.ensures by_hands in
    let same = prepared x now (meant g.W.Parts.spare (in_hand c.prepare.new.pass))
    g.W.Parts.entry_of g.W.Parts.seen_by (g.W.Parts.prepared rules (in_hand c.prepare.new.pass))
    c.in-Entry.entry c.in_ok-ready-in-Entry.field-0 ready c.in_ok-ready-in-Entry.ensures.answer
    c.in-Ready.is in
    let made = c.commit.ensures.made in
    let one : OneMore x legal who (view_of c.args.pass.now) (view_of c.commit.new.pass) = (
      commit c.commit.result (g.W.Parts.entry_of ready) now,
      made.own ∙ ap (λ v. v.own ++ commit c.commit.result (g.W.Parts.entry_of ready) now ∷ [])
          c.prepare.ensures.same,
      made.ended ∙ ap (λ v. v.ended) c.prepare.ensures.same,
      legal_commit x legal who c.commit.result held now told c.in-Entry.entry
          (g.W.Parts.entry_of ready) c.requires.askable.0 tells c.in-Entry.is same
          c.prepare.ensures.held,
    ) in
    after_entry x legal who g.W.Turns.stops (g.W.Turns.activities rules) (view_of c.args.pass.now)
    (view_of c.commit.new.pass) c.made.result (g.met.W.Turns.turning rules)
    (subst (λ r. c.made.result ≡ made_by (who + 1 == g.W.Turns.activities r)) c.rules-rules.ensures
    c.made.ensures) one
