use Rattle.std.proofs.Common.{rules, ◌≡◌, ◌<◌, ◌≤◌, ◌++◌, ◌∷◌, [], true, All}
use Rattle.std.proofs.Common.{length, sym, ap, subst, ◌∙◌}
use Rattle.std.proofs.lemmas.Result.{IfOk-at_ok}
use Rattle.be_hall.specs.Hands.{rises_from}
use Rattle.be_hall.specs.Words.{in_hand, rules_of, view_of}
use Rattle.be_workers.specs.declared.turn.Asked.TheVariants.{Came, Needs}
use Rattle.be_workers.specs.Turned.{AskedOf, HasThem, Told}
use Rattle.be_workers.specs.Wanted.{IsChosen, Suits, added, inserted, wanted, wanted_below}
use Rattle.be_workers.proofs.Turned.{carried}
use Rattle.be_workers.proofs.Wanted.{Grown, grown, inserted_last, is_held, owned}
use Rattle.be_workers.proofs.Wanted.{wanted_rises, wanted_there, with_one}
use Rattle.be_workers.proofs.turn.take_turn.Given.{Over}
use Rattle.be_workers.proofs.turn.take_turn.Goals as goal

pub hold-requires-clause-has : goal.hold-requires-clause-has
hold-requires-clause-has g c =
    subst (λ l. HasThem g.W.Parts.machine g.W.Parts.meaning c.args.hall.now l c.loop-rules.has
    c.loop-rules.pass) (sym c.places.ensures) c.loop-rules.invariant.1

pub hold-requires-clause-rising : goal.hold-requires-clause-rising
hold-requires-clause-rising g c =
    let wants = c.loop-rules.wants in
    subst (λ l. rises_from 0 l ≡ true) (sym (c.places.ensures ∙ c.loop-rules.invariant.3))
    (wanted_rises (g.W.Turns.owns (rules_of c.args.hall.now) c.args.who) (added wants)
    (g.W.Parts.machine (rules_of c.args.hall.now)).places)

pub hold-requires-clause-below : goal.hold-requires-clause-below
hold-requires-clause-below g c =
    let wants = c.loop-rules.wants in
    let places = (g.W.Parts.machine (rules_of c.args.hall.now)).places in
    subst (All (λ p. p < places)) (sym (c.places.ensures ∙ c.loop-rules.invariant.3))
    (wanted_there (g.W.Turns.owns (rules_of c.args.hall.now) c.args.who) (added wants) places)

pub ask-asked-requires-clause-own : goal.ask-asked-requires-clause-own
ask-asked-requires-clause-own g c = λ p below own.
    let it = rules_of c.args.hall.now in
    is_held g.W.Parts.meaning (in_hand c.hold.new.pass) _ p (c.hold.ensures.held (search rules)
    ∙ (c.places.ensures ∙ c.loop-rules.invariant.3))
    (owned (g.W.Turns.owns it c.args.who) (added c.loop-rules.wants)
    (g.W.Parts.machine it).places p below own)

pub reach-has-requires-clause-held : goal.reach-has-requires-clause-held
reach-has-requires-clause-held g c = c.ask-asked.ensures.places
    ∙ (c.hold.ensures.held (search rules)
    ∙ (c.places.ensures ∙ sym c.places-in-Ok-Needs.ensures))

pub reach-has-requires-clause-rising : goal.reach-has-requires-clause-rising
reach-has-requires-clause-rising g c =
    let it = rules_of c.args.hall.now in
    subst (λ l. rises_from 0 l ≡ true)
    (sym (c.places-in-Ok-Needs.ensures ∙ c.loop-rules.invariant.3))
    (wanted_rises (g.W.Turns.owns it c.args.who) (added c.loop-rules.wants)
    (g.W.Parts.machine it).places)

pub reach-has-requires-clause-there : goal.reach-has-requires-clause-there
reach-has-requires-clause-there g c =
    let tells = Told g.W.Parts.machine g.W.Parts.meaning g.W.Turns.legal c.args.hall.now
    c.args.who c.hold.new.pass in
    let is : c.in-Ok-Needs.field-0 ≡ Needs c.in-Ok-Needs.place =
    rw c.in-Ok-Needs.is at c.in-Ok-Needs.field-0-is in
    let told = subst tells is (IfOk-at_ok tells c.in-Ok-Needs.is c.ask-asked.ensures.told) in told.0

-- what is wanted grows by what Needs named
grown_by : (g : Over) (c : goal.After-add-arg-1 g)
    → Grown (g.W.Parts.machine (rules_of c.args.hall.now)).places (added c.loop-rules.wants)
    (wanted c.loop-rules.wants) c.in-Ok-Needs.place
    (wanted_below (g.W.Turns.owns (rules_of c.args.hall.now) c.args.who)
    (added c.loop-rules.wants ++ c.in-Ok-Needs.place ∷ [])
    (g.W.Parts.machine (rules_of c.args.hall.now)).places)
grown_by g c =
    let it = rules_of c.args.hall.now in
    let wants = c.loop-rules.wants in
    let i = c.loop-rules.invariant in
    let tells = Told g.W.Parts.machine g.W.Parts.meaning g.W.Turns.legal c.args.hall.now
    c.args.who c.hold.new.pass in
    let is : c.in-Ok-Needs.field-0 ≡ Needs c.in-Ok-Needs.place =
    rw c.in-Ok-Needs.is at c.in-Ok-Needs.field-0-is in
    let told = subst tells is (IfOk-at_ok tells c.in-Ok-Needs.is c.ask-asked.ensures.told) in
    let held = c.hold.ensures.held (search rules) ∙ c.places.ensures in
    grown g.W.Parts.meaning (g.W.Turns.owns it c.args.who) (added wants)
    (in_hand c.hold.new.pass) (wanted wants) (g.W.Parts.machine it).places c.in-Ok-Needs.place held
    i.3 told i.4

pub add-requires-clause-few : goal.add-requires-clause-few
add-requires-clause-few g c =
    subst (λ r. length (added c.loop-rules.wants) < (g.W.Parts.machine r).places)
    (sym c.rules-rules.ensures) (grown_by g c).few

-- what is wanted after it was added
chosen_now : (g : Over) (c : goal.After-add g)
    → IsChosen g.W.Parts.machine g.W.Turns.owns (rules_of c.args.hall.now) c.args.who c.add.new.self
chosen_now g c =
    subst (λ r. IsChosen g.W.Parts.machine g.W.Turns.owns r c.args.who c.add.new.self)
    c.rules-rules.ensures c.add.ensures.chosen

grown_now : (g : Over) (c : goal.After-add g)
    → Grown (g.W.Parts.machine (rules_of c.args.hall.now)).places (added c.loop-rules.wants)
    (wanted c.loop-rules.wants) c.in-Ok-Needs.place (wanted c.add.new.self)
grown_now g c =
    let it = rules_of c.args.hall.now in
    let places = (g.W.Parts.machine it).places in
    let is = chosen_now g c
    ∙ ap (λ more. wanted_below (g.W.Turns.owns it c.args.who) more places) c.add.ensures.added in
    subst (Grown places (added c.loop-rules.wants) (wanted c.loop-rules.wants) c.in-Ok-Needs.place)
    (sym is) (grown_by g c.before)

pub loop-rules-smaller : goal.loop-rules-smaller
loop-rules-smaller g c = (grown_now g c).less

pub loop-rules-preserved : goal.loop-rules-preserved
loop-rules-preserved g c =
    let hall = c.args.hall.now in
    let it = rules_of hall in
    let owns = g.W.Turns.owns it c.args.who in
    let places = (g.W.Parts.machine it).places in
    let more = added c.loop-rules.wants in
    let place = c.in-Ok-Needs.place in
    let new = c.add.new.self in
    let same = c.rules-rules.ensures in
    let i = c.loop-rules.invariant in
    let reached = c.reach-has.ensures in
    let tells = Told g.W.Parts.machine g.W.Parts.meaning g.W.Turns.legal hall c.args.who
    c.hold.new.pass in
    let is : c.in-Ok-Needs.field-0 ≡ Needs c.in-Ok-Needs.place =
    rw c.in-Ok-Needs.is at c.in-Ok-Needs.field-0-is in
    let told = subst tells is (IfOk-at_ok tells c.in-Ok-Needs.is c.ask-asked.ensures.told) in
    let keeps = AskedOf g.W.Parts.machine g.W.Turns.legal g.W.Turns.stops hall c.args.who
    c.hold.new.pass c.ask-asked.new.pass in
    let asked = subst keeps is (IfOk-at_ok keeps c.in-Ok-Needs.is c.ask-asked.ensures.ok) in
    let behind = λ (t : c.reach-has.result ≡ true).
    chosen_now g c ∙ (ap (λ l. wanted_below owns l places) c.add.ensures.added
    ∙ (with_one owns more place places told.0 ∙ (ap (inserted place)
    (sym i.3 ∙ sym c.places-in-Ok-Needs.ensures)
    ∙ inserted_last place c.places-in-Ok-Needs.result.now (reached.above t)))) in (
      reached.hall,
      (λ t. let h = reached.has.0 t in (h.0 ∙ sym (behind t), h.1), reached.has.1),
      subst (λ r. Suits g.W.Parts.machine g.W.Turns.owns r new) same c.add.ensures.suits,
      chosen_now g c,
      subst (λ more. length more ≤ length (wanted new)) (sym c.add.ensures.added)
          (grown_now g c).kept,
      (
        reached.kept.0 ∙ (asked.0 ∙ (c.hold.ensures.kept.0 ∙ i.5.0)),
        reached.kept.1 ∙ (asked.1 ∙ (c.hold.ensures.kept.1 ∙ i.5.1)),
      ),
      same,
    )

pub returns-in-Ok-Came-clause-ok : goal.returns-in-Ok-Came-clause-ok
returns-in-Ok-Came-clause-ok g c =
    let hall = c.args.hall.now in
    let who = c.args.who in
    let grabbed = c.hold.new.pass in
    let asked = c.ask-asked.new.pass in
    let before = c.loop-rules.invariant.5 in
    let kept = c.hold.ensures.kept in
    let does = AskedOf g.W.Parts.machine g.W.Turns.legal g.W.Turns.stops hall who grabbed
    asked in
    let is : c.in-Ok-Came.field-0 ≡ Came c.in-Ok-Came.did =
    rw c.in-Ok-Came.is at c.in-Ok-Came.field-0-is in
    let came = subst does is (IfOk-at_ok does c.in-Ok-Came.is c.ask-asked.ensures.ok) in
    carried (g.W.Parts.machine (rules_of hall)) (g.W.Turns.legal (rules_of hall)) who
    g.W.Turns.stops (view_of c.args.pass.now) (view_of grabbed) (view_of asked)
    (view_of c.give.new.pass) c.in-Ok-Came.did
    (kept.0 ∙ before.0, kept.1 ∙ before.1) came
    (c.give.ensures.known.own, c.give.ensures.known.ended)
