use Rattle.std.proofs.Common.{rules, List, Bool, take, drop, ℕ, ◌≡◌, ◌+◌, ◌<◌, ◌≤◌, [], ◌∷◌, ◌++◌, length, map, sym, ap, subst, ◌∙◌, arith}
use Rattle.be_facts.proofs.Lists.{whole_again}
use Rattle.be_hall.specs.Hands.{meant}
use Rattle.be_hall.specs.Machine.{Fits, IsHeld, HeldFit, leads}
use Rattle.be_hall.specs.Logs.{IsAbove, appended}
use Rattle.be_hall.proofs.Holding.{fit_after}
use Rattle.be_hall.proofs.Gathered.{all_in, same_firsts}
use Rattle.be_serial.proofs.Going.{a_ready, an_entry, entry_is, goes_on, is_above, is_entry, knows_after, leads_snoc}
use Rattle.be_serial.specs.Running.{Runs}
use Rattle.be_serial.specs.Known.{Knows, Stirs}
use Rattle.be_serial.proofs.serial.Run.step.Goals as goal

pub next-requires-clause-own : goal.next-requires-clause-own
next-requires-clause-own g c = λ p b own. all_in g.W.Parts.meaning (g.W.Parts.machine c.args.self.now.rules).places c.args.self.now.held.parts c.requires.runs.all p b

pub next-requires-clause-fits : goal.next-requires-clause-fits
next-requires-clause-fits g c =
    let x = g.W.Parts.machine c.args.self.now.rules in
    let n = length c.args.self.now.history.items in
    let room = c.requires.runs.room in
    let limit = c.requires.limit in
    let small : n ≤ 4611686018427387904 = omega arith in
    fit_after g.W.Parts.meaning x.fits n 4611686018427387904 c.args.self.now.held.parts (λ m f. (g.met.W.Parts.lawful c.args.self.now.rules).fits_more n 4611686018427387904 m small f) c.requires.runs.fits

pub prepare-requires-clause-fits : goal.prepare-requires-clause-fits
prepare-requires-clause-fits g c =
    let x = g.W.Parts.machine c.args.self.now.rules in
    let n = length c.args.self.now.history.items in
    let room = c.requires.runs.room in
    let limit = c.requires.limit in
    let small : n ≤ 4611686018427387904 = omega arith in
    fit_after g.W.Parts.meaning x.fits n 4611686018427387904 c.args.self.now.held.parts (λ m f. (g.met.W.Parts.lawful c.args.self.now.rules).fits_more n 4611686018427387904 m small f) c.requires.runs.fits

pub unreachable-requires : goal.unreachable-requires
unreachable-requires g c =
    let x = g.W.Parts.machine c.args.self.now.rules in
    let held = c.args.self.now.held.parts in
    let r = c.requires.runs in
    an_entry x (meant g.W.Parts.meaning held) (λ p b. all_in g.W.Parts.meaning x.places held r.all p b) (g.W.Turns.legal c.args.self.now.rules) c.args.who c.in_ok-entry.field-0 (leads x (map g.W.Parts.meaning c.args.self.now.opening.value.items) c.args.self.now.history.items) r.sound r.gives c.requires.legal.1 c.in_ok-entry.ensures c.in_default.not-Entry

pub unreachable-requires-in_default-2 : goal.unreachable-requires-in_default-2
unreachable-requires-in_default-2 g c =
    let x = g.W.Parts.machine c.args.self.now.rules in
    let meaning = g.W.Parts.meaning in
    let legal = g.W.Turns.legal c.args.self.now.rules in
    let held = c.args.self.now.held.parts in
    let new = c.prepare.new.held.parts in
    let r = c.requires.runs in
    let now = leads x (map meaning c.args.self.now.opening.value.items) c.args.self.now.history.items in
    let all : (p : ℕ) → p < x.places → IsHeld (meant meaning held) p = λ p b. all_in meaning x.places held r.all p b in
    let entry = is_entry x (meant meaning held) all legal c.args.who c.in_ok-entry.field-0 c.in-Entry.entry now r.sound r.gives c.in_ok-entry.ensures c.in-Entry.is in
    a_ready x (meant meaning new) (subst (λ h. (p : ℕ) → p < x.places → IsHeld h p) (sym c.prepare.ensures.same) all) (meant g.W.Parts.spare new) g.W.Parts.entry_of g.W.Parts.seen_by (g.W.Parts.prepared c.args.self.now.rules new) c.in-Entry.entry c.in_ok-ready.field-0 now (g.met.W.Parts.lawful c.args.self.now.rules) r.sound (subst (Fits now) (sym c.prepare.ensures.same) r.gives) ((g.met.W.Turns.turning c.args.self.now.rules).permits now c.args.who c.in-Entry.entry r.sound entry) c.in_ok-ready.ensures.answer c.in_default-2.not-Ready

pub perform-requires-clause-above : goal.perform-requires-clause-above
perform-requires-clause-above g c =
    let k = (g.W.Parts.machine c.args.self.now.rules).keeper (g.W.Parts.entry_of c.in-Ready.ready) in
    let long : c.len.result ≡ length c.args.self.now.history.items = search rules in
    subst (λ n. IsAbove (n + 1) k (meant g.W.Parts.log c.prepare.new.held.parts)) (sym long) (subst (IsAbove (length c.args.self.now.history.items + 1) k) (sym c.prepare.ensures.logs) (is_above (length c.args.self.now.history.items + 1) k (meant g.W.Parts.log c.args.self.now.held.parts) c.requires.runs.logs))

pub returns-clause-runs : goal.returns-clause-runs
returns-clause-runs g c =
    let self = c.args.self.now in
    let x = g.W.Parts.machine self.rules in
    let meaning = g.W.Parts.meaning in
    let log = g.W.Parts.log in
    let held = self.held.parts in
    let mid = c.prepare.new.held.parts in
    let new = c.perform.new.held.parts in
    let o = map meaning self.opening.value.items in
    let h = self.history.items in
    let now = leads x o h in
    let r = c.requires.runs in
    let e = c.in-Entry.entry in
    let legal = g.W.Turns.legal self.rules in
    let lawful = g.met.W.Parts.lawful self.rules in
    let all : (p : ℕ) → p < x.places → IsHeld (meant meaning held) p = λ p b. all_in meaning x.places held r.all p b in
    let all_mid : (p : ℕ) → p < x.places → IsHeld (meant meaning mid) p = subst (λ z. (p : ℕ) → p < x.places → IsHeld z p) (sym c.prepare.ensures.same) all in
    let entry = is_entry x (meant meaning held) all legal c.args.who c.in_ok-entry.field-0 e now r.sound r.gives c.in_ok-entry.ensures c.in-Entry.is in
    let permits = (g.met.W.Turns.turning self.rules).permits now c.args.who e r.sound entry in
    let is = entry_is x (meant meaning mid) all_mid (meant g.W.Parts.spare mid) g.W.Parts.entry_of g.W.Parts.seen_by (g.W.Parts.prepared self.rules mid) e c.in_ok-ready.field-0 c.in-Ready.ready c.in_ok-ready.ensures.answer c.in-Ready.is in
    let long : c.len.result ≡ length h = search rules in
    let gives = subst (λ k. Fits (x.after now k) (meant meaning new)) is (c.perform.ensures.after now r.sound (subst (Fits now) (sym c.prepare.ensures.same) r.gives)) in
    let places = c.perform.ensures.places ∙ same_firsts meaning mid held c.prepare.ensures.same in
    let fits = subst (λ n. HeldFit x.fits (n + 1) (meant meaning new)) long c.perform.ensures.fits in
    let logs = c.perform.ensures.logs ∙ (λ i. appended (x.keeper (is i)) (long i + 1, is i) (c.prepare.ensures.logs i)) in
    let history : c.push.new.self.items ≡ h ++ e ∷ [] = search rules in
    subst (Runs x meaning log o self.limit new) (sym history) (goes_on x meaning log o self.limit held new h e lawful r permits gives places fits logs)

pub returns-clause-knows : goal.returns-clause-knows
returns-clause-knows g c =
    let self = c.args.self.now in
    let x = g.W.Parts.machine self.rules in
    let meaning = g.W.Parts.meaning in
    let held = self.held.parts in
    let o = map meaning self.opening.value.items in
    let h = self.history.items in
    let now = leads x o h in
    let r = c.requires.runs in
    let e = c.in-Entry.entry in
    let legal = g.W.Turns.legal self.rules in
    let many = g.W.Turns.activities self.rules in
    let can = c.args.answers.now.can.items in
    let old = c.args.answers.now.stale.items in
    let new = c.stir.new.stale in
    let all : (p : ℕ) → p < x.places → IsHeld (meant meaning held) p = λ p b. all_in meaning x.places held r.all p b in
    let entry = is_entry x (meant meaning held) all legal c.args.who c.in_ok-entry.field-0 e now r.sound r.gives c.in_ok-entry.ensures c.in-Entry.is in
    let permits = (g.met.W.Turns.turning self.rules).permits now c.args.who e r.sound entry in
    let same : length c.as_mut_slice.result.now ≡ length old = ap length c.as_mut_slice.ensures.value in
    let long : length new ≡ length old = omega arith in
    let many_old = c.as_mut_slice.ensures.len in
    let stirs = subst (λ (l : List Bool). Stirs x legal many e l new) c.as_mut_slice.ensures.value c.stir.ensures in
    let known = knows_after x legal many now e can old new r.sound permits long stirs c.requires.knows in
    let kept = whole_again c.args.answers.now.stale.len new old long (omega arith) in
    let history : c.push.new.self.items ≡ h ++ e ∷ [] = search rules in
    subst (λ z. Knows legal many (leads x o z) can (take c.args.answers.now.stale.len (new ++ drop (length new) old))) (sym history)
    (subst (λ z. Knows legal many z can (take c.args.answers.now.stale.len (new ++ drop (length new) old))) (sym (leads_snoc x meaning g.W.Parts.log o self.limit o h e))
    (subst (λ l. Knows legal many (x.after now e) can l) (sym kept) known))
