use Rattle.std.proofs.Common.{rules, ℕ, suc, ◌≡◌, ◌+◌, ◌<◌, ◌≤◌, true, List, [], ◌∷◌, ◌++◌, All, Some, length, map, vec_capacity, slice_index_or, refl, sym, ap, subst, ◌∙◌, arith}
use Rattle.std.proofs.lemmas.List.Elements.{All-get_or}
use Rattle.std.proofs.Math.ListN.{get_or}
use Rattle.be_facts.proofs.Lists.{map_length, map_map}
use Rattle.be_hall.specs.Numbers.{total}
use Rattle.be_hall.specs.Hands.{up_from, numbered}
use Rattle.be_hall.specs.Machine.{leads}
use Rattle.be_hall.proofs.Gathered.{numbered_fit, numbered_fits, numbered_places, whole}
use Rattle.be_turns.specs.Turning.{IsFinished, is_some}
use Rattle.be_serial.specs.Scheduled.{next_draw, draws, place_of, ready_below, Picked}
use Rattle.be_serial.specs.Running.{Runs}
use Rattle.be_serial.specs.Known.{AllStale}
use Rattle.be_serial.proofs.Going.{all_ready, closes, draws_next, knows_none, leads_snoc, more_long, no_items, none_ready, numbered_logs, picked_snoc}
use Rattle.be_serial.proofs.serial.run_serial.Goals as goal

pub loop-listed-init : goal.loop-listed-init
loop-listed-init g c =
    let meaning = g.W.Parts.meaning in
    let log = g.W.Parts.log in
    let x = g.W.Parts.machine c.args.rules in
    let xs = c.args.parts.items in
    let o = map meaning xs in
    let is : c.of-opening.result.value.items ≡ xs = search rules in
    let held : c.whole.result.parts ≡ numbered 0 xs = search rules in
    let none : c.new-2.result.items ≡ [] = search rules in
    let many : length xs ≡ x.places = sym (map_length meaning xs) ∙ (g.met.W.Parts.lawful c.args.rules).as_many o c.requires.sound in
    let budgets = c.requires.budgets in
    let runs : Runs x meaning log o c.args.limit (numbered 0 xs) [] = record {
      legal = tt;
      sound = c.requires.sound;
      gives = numbered_fits meaning [] 0 xs refl;
      all = numbered_places meaning 0 xs ∙ ap (up_from 0) many;
      fits = numbered_fit meaning x.fits 0 0 xs c.requires.fits;
      room = omega arith;
      logs = numbered_logs log (length {A = g.row.W-Entry.Denot} [] + 1) 0 xs c.requires.logs;
    } in (
      refl,
      is,
      refl,
      subst (λ z. Runs x meaning log (map meaning z) c.args.limit c.whole.result.parts c.new-2.result.items) (sym is) (subst (Runs x meaning log o c.args.limit c.whole.result.parts) (sym none) (subst (λ h. Runs x meaning log o c.args.limit h []) (sym held) runs)),
      (search rules),
      (search rules),
      c.new-schedule.ensures.1 ∙ sym (ap (λ h. draws c.args.seed c.args.seed (length h)) none),
      subst (Picked x (g.W.Turns.legal c.args.rules) (g.W.Turns.activities c.args.rules) c.args.seed c.args.seed o) (sym none) tt,
      knows_none (g.W.Turns.legal c.args.rules) (g.W.Turns.activities c.args.rules) (leads x (map meaning c.of-opening.result.value.items) c.new-2.result.items) c.in_ok-answers.answers.can.items c.in_ok-answers.answers.stale.items
          (subst (λ n. AllStale n c.in_ok-answers.answers.can.items c.in_ok-answers.answers.stale.items) c.activities-2.ensures c.in_ok-answers.ensures),
    )

pub step-requires-clause-legal : goal.step-requires-clause-legal
step-requires-clause-legal g c =
    let run = c.loop-listed.run in
    let legal = g.W.Turns.legal run.rules in
    let now = leads (g.W.Parts.machine run.rules) (map g.W.Parts.meaning run.opening.value.items) run.history.items in
    let many = g.W.Turns.activities run.rules in
    let items = c.list_ready.new.ready.items in
    let good = λ (a : ℕ). (a < many) × (is_some (legal now a) ≡ true) in
    let at : slice_index_or c.as_slice-listed.result.now c.pick-place.result 0 ≡ get_or items c.pick-place.result 0 = ap (λ l. get_or l c.pick-place.result 0) c.as_slice-listed.ensures.value in
    let inside : c.pick-place.result < length items = search rules in
    subst good (sym at) (All-get_or good items c.pick-place.result 0 inside (subst (All good) (sym c.list_ready.ensures.list) (all_ready legal now many)))

pub loop-listed-smaller : goal.loop-listed-smaller
loop-listed-smaller g c =
    let meaning = g.W.Parts.meaning in
    let run = c.loop-listed.run in
    let new = c.step.new.self in
    let x = g.W.Parts.machine run.rules in
    let o = map meaning run.opening.value.items in
    let now = leads x o run.history.items in
    let r = c.loop-listed.invariant.3 in
    let same = c.in_ok-step.ensures.same in
    let made = c.in_ok-step.ensures.made in
    let before = total x.budget now in
    let falls = (g.met.W.Parts.lawful run.rules).falls now made.0 r.sound ((g.met.W.Turns.turning run.rules).permits now (slice_index_or c.as_slice-listed.result.now c.pick-place.result 0) made.0 r.sound made.2) in
    subst (λ z. total (g.W.Parts.machine z).budget (leads (g.W.Parts.machine z) (map meaning new.opening.value.items) new.history.items) < before) (sym same.0)
    (subst (λ z. total x.budget (leads x (map meaning z.value.items) new.history.items) < before) (sym same.1)
    (subst (λ z. total x.budget (leads x o z) < before) (sym made.1)
    (subst (λ z. total x.budget z < before) (sym (leads_snoc x meaning g.W.Parts.log o run.limit o run.history.items made.0)) falls)))

pub loop-listed-preserved : goal.loop-listed-preserved
loop-listed-preserved g c =
    let meaning = g.W.Parts.meaning in
    let run = c.loop-listed.run in
    let new = c.step.new.self in
    let seed = c.args.seed in
    let x = g.W.Parts.machine run.rules in
    let legal = g.W.Turns.legal run.rules in
    let many = g.W.Turns.activities run.rules in
    let o = map meaning run.opening.value.items in
    let h = run.history.items in
    let now = leads x o h in
    let i = c.loop-listed.invariant in
    let same = c.in_ok-step.ensures.same in
    let made = c.in_ok-step.ensures.made in
    let items = c.list_ready.new.ready.items in
    let list : items ≡ ready_below legal now many = c.list_ready.ensures.list in
    let long : length c.as_slice-listed.result.now ≡ length items = ap length c.as_slice-listed.ensures.value in
    let inside : c.pick-place.result < length items = search rules in
    let at : slice_index_or c.as_slice-listed.result.now c.pick-place.result 0 ≡ get_or items c.pick-place.result 0 = ap (λ l. get_or l c.pick-place.result 0) c.as_slice-listed.ensures.value in
    let drawn : c.pick-place.new.self.drawn ≡ next_draw seed (draws seed seed (length h)) = c.pick-place.ensures.drawn ∙ (λ k. next_draw (i.5 k) (i.6 k)) in
    let place : c.pick-place.result ≡ place_of seed (next_draw seed (draws seed seed (length h))) (length (ready_below legal now many)) = c.pick-place.ensures.place ∙ (λ k. place_of (i.5 k) (drawn k) ((long ∙ ap length list) k)) in
    let some_ready : 0 < length (ready_below legal now many) = subst (λ n. 0 < n) (ap length list) (omega arith) in
    let picked = subst (λ a. legal now a ≡ Some made.0) (at ∙ (λ k. get_or (list k) (place k) 0)) made.2 in
    let before = subst (λ z. Picked (g.W.Parts.machine z) (g.W.Turns.legal z) (g.W.Turns.activities z) seed seed o h) (sym i.0) (subst (λ z. Picked (g.W.Parts.machine c.args.rules) (g.W.Turns.legal c.args.rules) (g.W.Turns.activities c.args.rules) seed seed (map meaning z) h) (sym i.1) i.7) in
    let more = picked_snoc x legal many seed seed o h made.0 before some_ready picked in
    let one : length h + 1 ≡ suc (length h) = omega arith in
    let count : length new.history.items ≡ suc (length h) = ap length made.1 ∙ (more_long x meaning g.W.Parts.log o run.limit h made.0 ∙ one) in (
      same.0 ∙ i.0,
      ap (λ s. s.value.items) same.1 ∙ i.1,
      same.2 ∙ i.2,
      c.in_ok-step.ensures.runs,
      subst (λ z. g.W.Turns.activities z ≤ vec_capacity c.list_ready.new.ready) i.0 c.list_ready.ensures.room,
      c.pick-place.ensures.seed ∙ i.5,
      drawn ∙ (sym (draws_next x legal many seed seed (length h)) ∙ ap (draws seed seed) (sym count)),
      subst (λ z. Picked (g.W.Parts.machine z) (g.W.Turns.legal z) (g.W.Turns.activities z) seed seed (map meaning c.args.parts.items) new.history.items) i.0 (subst (λ z. Picked x legal many seed seed (map meaning z) new.history.items) i.1 (subst (Picked x legal many seed seed o) (sym made.1) more)),
      c.in_ok-step.ensures.knows,
    )

pub returns-clause-finished : goal.returns-clause-finished
returns-clause-finished g c =
    let meaning = g.W.Parts.meaning in
    let run = c.loop-listed.run in
    let x = g.W.Parts.machine run.rules in
    let o = map meaning run.opening.value.items in
    let h = run.history.items in
    let now = leads x o h in
    let i = c.loop-listed.invariant in
    let r = i.3 in
    let never = g.met.W.Closing.never_stuck run.rules in
    let lawful = g.met.W.Parts.lawful run.rules in
    let none : length c.list_ready.new.ready.items ≡ 0 = search rules in
    let empty = no_items c.list_ready.new.ready.items none in
    let sound = subst (λ z. (g.W.Parts.machine z).sound o) (sym i.0) (subst (λ z. (g.W.Parts.machine c.args.rules).sound (map meaning z)) (sym i.1) c.requires.sound) in
    let unclosed = subst (λ z. g.W.Closing.closed z o ≡ Rattle.std.proofs.Common.false) (sym i.0) (subst (λ z. g.W.Closing.closed c.args.rules (map meaning z) ≡ Rattle.std.proofs.Common.false) (sym i.1) c.requires.unclosed) in
    let stuck = never.stuck now r.sound (none_ready (g.W.Turns.legal run.rules) now (g.W.Turns.activities run.rules) (sym c.list_ready.ensures.list ∙ empty)) in
    let ends = closes x meaning g.W.Parts.log o run.limit (g.W.Turns.legal run.rules) g.W.Turns.stops (g.W.Turns.activities run.rules) (g.W.Closing.closed run.rules) h lawful never sound unclosed r.legal stuck in
    let parts : map meaning c.into_parts.result.items ≡ now = ap (map meaning) c.into_parts.ensures ∙ (map_map meaning (λ y. y.1) run.held.parts ∙ whole meaning 0 x.places [] now run.held.parts r.all refl (lawful.as_many now r.sound) r.gives) in
    let done : IsFinished x g.W.Turns.stops o h (map meaning c.into_parts.result.items) = record { legal = r.legal; ends = ends; leads_to = parts } in
    subst (λ z. IsFinished (g.W.Parts.machine z) g.W.Turns.stops (map meaning c.args.parts.items) h (map meaning c.into_parts.result.items)) i.0 (subst (λ z. IsFinished x g.W.Turns.stops (map meaning z) h (map meaning c.into_parts.result.items)) i.1 done)
