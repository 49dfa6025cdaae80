-- The rules keep the laws of parts, of activities, and of runs that end.
use Rattle.std.proofs.Common.{◌≡◌, ◌≢◌, ℕ, zero, suc, ◌+◌, ◌*◌, ◌<◌, ◌≤◌, inl, inr, ⊎_elim, Bool}
use Rattle.std.proofs.Common.{true, false, not, ◌&&◌, nat_lt, List, Some, None, if◌then◌else◌, sym}
use Rattle.std.proofs.Common.{refl, ap, ◌∙◌, subst, mod-lt, arith}
use Rattle.std.proofs.lemmas.Bool.{ltb-true, ltb-false, lt-ltb, le-ltb, and_parts, and_from}
use Rattle.std.proofs.lemmas.Bool.{not-true, not_from_false, both_ways, cond-true, cond-false}
use Rattle.std.proofs.lemmas.Bool.{cases_Bool, cases_lt}
use mathlib.Core.Option.{some}
use mathlib.Core.Logic.{dite}
use native.Mathlib.Decide.{dec_le}
use lib.ListN.{get_elem?}
use Rattle.be_hall.specs.Numbers.{total}
use Rattle.be_hall.specs.Machine.{AllFit, Lawful}
use Rattle.be_turns.specs.Turning.{Turning}
use Rattle.be_serial.specs.Running.{NeverStuck}
use Rattle.small_world.specs.declared.step.Count.{Count}
use Rattle.small_world.specs.declared.step.Step.{Step}
use Rattle.small_world.specs.declared.step.Step.TheVariants.{Give, Use, Close}
use Rattle.small_world.specs.declared.world.World.{World}
use Rattle.small_world.specs.Changing.{length-changed, changed_else, total_changed, has_else}
use Rattle.small_world.specs.Changing.{has_none, there, has_some, Fit, fit_changed}
use Rattle.small_world.specs.Counting.{gave, used, got, emptied, changed_at, is_close}
use Rattle.small_world.specs.Counting.{closing_place, target_of, wish_of, actor_of, work_of}
use Rattle.small_world.specs.Counting.{has_work, is_idle_below, may, after_step, Touches, is_closed}
use Rattle.small_world.specs.Counting.{IsSound, legal_step, passing}

legal_is : (b : Bool) (v e : Step) → (if b then Some v else None) ≡ Some e → (b ≡ true) × (v ≡ e)
legal_is true v e h = (refl, (cc))
legal_is false v e h = absurd (cc)

legal_none : (b : Bool) (v : Step) → (if b then Some v else None) ≡ None → b ≡ false
legal_none true v h = absurd (cc)
legal_none false v h = refl

module _ (w : World) where
  -- numbers of activities
  pub target_below : (a : ℕ) → target_of w a < closing_place w
  target_below a = let m = mod-lt a w.any_consumer in omega arith

  work_left : (a : ℕ) (c : Count) → a < w.producers → work_of w a c ≡ c.left
  work_left a c h = cond-true (nat_lt a w.producers) c.left c.units (lt-ltb a w.producers h)

  pub work_units : (a : ℕ) (c : Count) → w.producers ≤ a → work_of w a c ≡ c.units
  work_units a c h = cond-false (nat_lt a w.producers) c.left c.units (le-ltb a w.producers h)

  wish_give : (a : ℕ) → a < w.producers → wish_of w a ≡ Give a
  wish_give a h =
      cond-true (nat_lt a w.producers) (Give a) (if nat_lt a (closing_place w) then Use a else
      Close) (lt-ltb a w.producers h)

  wish_later : (a : ℕ) → w.producers ≤ a
      → wish_of w a ≡ (if nat_lt a (closing_place w) then Use a else Close)
  wish_later a h =
      cond-false (nat_lt a w.producers) (Give a) (if nat_lt a (closing_place w) then Use a else
      Close) (le-ltb a w.producers h)

  wish_use : (a : ℕ) → w.producers ≤ a → a < closing_place w → wish_of w a ≡ Use a
  wish_use a h l =
      wish_later a h
      ∙ cond-true (nat_lt a (closing_place w)) (Use a) Close (lt-ltb a (closing_place w) l)

  pub wish_close : (a : ℕ) → closing_place w ≤ a → wish_of w a ≡ Close
  wish_close a h =
      wish_later a (omega arith)
      ∙ cond-false (nat_lt a (closing_place w)) (Use a) Close (le-ltb a (closing_place w) h)

  -- what a step that may be made says of the counters
  pub gives : (all : List Count) (a : ℕ) → may w all (Give a) ≡ true
      → (a < w.producers) × (has_work w all a ≡ true)
  gives all a h =
      let p = and_parts (nat_lt a w.producers) (has_work w all a) h in
      (ltb-true a w.producers p.0, p.1)

  pub uses : (all : List Count) (a : ℕ) → may w all (Use a) ≡ true
      → (w.producers ≤ a) × (a < closing_place w) × (has_work w all a ≡ true)
  uses all a h =
      let p = and_parts (not (nat_lt a w.producers) && nat_lt a (closing_place w))
      (has_work w all a) h in
      let q = and_parts (not (nat_lt a w.producers)) (nat_lt a (closing_place w)) p.0 in (
        ltb-false a w.producers (not-true (nat_lt a w.producers) q.0),
        ltb-true a (closing_place w)
            q.1,
        p.1,
      )

  pub closes : (all : List Count) → may w all Close ≡ true
      → (is_idle_below w all (closing_place w) ≡ true) × (has_work w all (closing_place w) ≡ true)
  closes all h =
      and_parts (is_idle_below w all (closing_place w)) (has_work w all (closing_place w)) h

  giver : (all : List Count) (a : ℕ) → a < w.producers → has_work w all a ≡ true
      → (c : Count) × (get_elem? all a ≡ some c) × (0 < c.left)
  giver all a h b =
      let x = has_some (work_of w a) all a b in
      (x.0, x.1, subst (λ n. 0 < n) (work_left a x.0 h) x.2)

  user : (all : List Count) (a : ℕ) → w.producers ≤ a → has_work w all a ≡ true
      → (c : Count) × (get_elem? all a ≡ some c) × (0 < c.units)
  user all a h b =
      let x = has_some (work_of w a) all a b in
      (x.0, x.1, subst (λ n. 0 < n) (work_units a x.0 h) x.2)

  -- the first k are without work
  pub idle_at : (all : List Count) (k a : ℕ) → is_idle_below w all k ≡ true → a < k
      → has_work w all a ≡ false
  idle_at all zero a h l = absurd (omega arith)
  idle_at all (suc k) a h l =
      let p = and_parts (not (has_work w all k)) (is_idle_below w all k) h in
      dite (dec_le k a) (λ last. let same : a ≡ k = omega arith in
      ap (has_work w all) same
      ∙ not-true (has_work w all k) p.0) (λ before. idle_at all k a p.1 (omega arith))

  pub idle_from : (all : List Count) (k : ℕ) → ((a : ℕ) → a < k → has_work w all a ≡ false)
      → is_idle_below w all k ≡ true
  idle_from all zero none = refl
  idle_from all (suc k) none =
      and_from (not (has_work w all k)) (is_idle_below w all k)
      (not_from_false (has_work w all k) (none k (omega arith)))
      (idle_from all k (λ a l. none a (omega arith)))

  -- while somebody else has work, the closing step was not made
  still_open : (all new : List Count) (a : ℕ) → IsSound w all → a < closing_place w
      → has_work w all a ≡ true
      → has_work w new (closing_place w) ≡ has_work w all (closing_place w)
      → is_closed w new ≡ true → ⊥
  still_open all new a s below busy same closed =
      both_ways (has_work w all a) (idle_at all (closing_place w) a
      (s.1 (ap not (sym same) ∙ closed)) below) busy

  give_open : (all : List Count) (a : ℕ) → IsSound w all → may w all (Give a) ≡ true
      → is_closed w (after_step w all (Give a)) ≡ true → ⊥
  give_open all a s h =
      let g = gives all a h in
      let n = closing_place w in
      let below = g.0 in
      let target = target_below a in
      still_open all (after_step w all (Give a)) a s (omega arith) g.1
      (has_else got (work_of w n) (changed_at gave all a) (target_of w a) n (λ e. omega arith)
      ∙ has_else gave (work_of w n) all a n (λ e. omega arith))

  use_open : (all : List Count) (a : ℕ) → IsSound w all → may w all (Use a) ≡ true
      → is_closed w (after_step w all (Use a)) ≡ true → ⊥
  use_open all a s h =
      let u = uses all a h in
      let n = closing_place w in
      let below = u.1 in
      still_open all (after_step w all (Use a)) a s below u.2
      (has_else used (work_of w n) all a n (λ e. omega arith))

  -- who was without work is so after the closing step
  idle_after : (all : List Count) (a : ℕ) → may w all Close ≡ true → a < closing_place w
      → has_work w (after_step w all Close) a ≡ false
  idle_after all a h l =
      has_else emptied (work_of w a) all (closing_place w) a (λ e. omega arith)
      ∙ idle_at all (closing_place w) a (closes all h).0 l

  stays : (all : List Count) (e : Step) → IsSound w all → may w all e ≡ true
      → IsSound w (after_step w all e)
  stays all (Give a) s h = (
    length-changed got (changed_at gave all a) (target_of w a)
        ∙ (length-changed gave all a ∙ s.0),
    λ c. absurd (give_open all a s h c),
  )
  stays all (Use a) s h = (length-changed used all a ∙ s.0, λ c. absurd (use_open all a s h c))
  stays all Close s h = (
    length-changed emptied all (closing_place w)
        ∙ s.0,
    λ c. idle_from (after_step w all Close) (closing_place w)
        (λ a l. idle_after all a h l),
  )

  abbrev cost : Count → ℕ
  cost c = 2 * c.left + c.units

  lowers : (all : List Count) (e : Step) → IsSound w all → may w all e ≡ true
      → total cost (after_step w all e) < total cost all
  lowers all (Give a) s h =
      let g = gives all a h in
      let below = g.0 in
      let t = target_of w a in
      let target = target_below a in
      let long = s.0 in
      let apart : t ≢ a = λ e. omega arith in
      let x = giver all a below g.1 in
      let y = there all t (omega arith) in
      let one = total_changed gave cost all a x.0 x.1 in
      let two =
      total_changed got cost (changed_at gave all a) t y.0
      (changed_else gave all a t apart ∙ y.1) in
      let some_left = x.2 in omega arith
  lowers all (Use a) s h =
      let u = uses all a h in
      let x = user all a u.0 u.2 in
      let one = total_changed used cost all a x.0 x.1 in
      let some_units = x.2 in omega arith
  lowers all Close s h =
      let x = user all (closing_place w) (omega arith) (closes all h).1 in
      let one = total_changed emptied cost all (closing_place w) x.0 x.1 in
      let some_units = x.2 in omega arith

  elsewhere_stays : (all : List Count) (e : Step) (p : ℕ) → (Touches w all e p → ⊥)
      → get_elem? (after_step w all e) p ≡ get_elem? all p
  elsewhere_stays all (Give a) p out =
      changed_else got (changed_at gave all a) (target_of w a) p (λ z. out (inr z))
      ∙ changed_else gave all a p (λ z. out (inl z))
  elsewhere_stays all (Use a) p out = changed_else used all a p out
  elsewhere_stays all Close p out =
      changed_else emptied all (closing_place w) p (λ z. out (omega arith))

  touched : (all : List Count) (e : Step) (p : ℕ) → may w all e ≡ true → Touches w all e p
      → p < closing_place w + 1
  touched all (Give a) p h t =
      let g = gives all a h in
      let below = g.0 in
      let target = target_below a in
      ⊎_elim (λ z. omega arith) (λ z. omega arith) t
  touched all (Use a) p h t = let u = uses all a h in let below = u.1 in omega arith
  touched all Close p h t = t

  pub actor_touched : (all : List Count) (e : Step) → Touches w all e (actor_of w e)
  actor_touched all (Give a) = inl refl
  actor_touched all (Use a) = refl
  actor_touched all Close = omega arith

  fit_after : (n : ℕ) (all : List Count) (e : Step) → AllFit Fit n all
      → AllFit Fit (n + 1) (after_step w all e)
  fit_after n all (Give a) f =
      fit_changed n (n + 1) (λ c k. omega arith) got (λ c k. omega arith) (changed_at gave all a)
      (target_of w a) (fit_changed n n (λ c k. k) gave (λ c k. k) all a f)
  fit_after n all (Use a) f =
      fit_changed n (n + 1) (λ c k. omega arith) used (λ c k. omega arith) all a f
  fit_after n all Close f =
      fit_changed n (n + 1) (λ c k. omega arith) emptied (λ c k. omega arith) all (closing_place w)
      f

  none_after : (all : List Count) (s e : Step) → may w all s ≡ true → is_close s ≡ true
      → may w (after_step w all s) e ≡ true → ⊥
  none_after all (Give a) e h stop h' = both_ways false refl stop
  none_after all (Use a) e h stop h' = both_ways false refl stop
  none_after all Close (Give a) h stop h' =
      let new = after_step w all Close in
      let g = gives new a h' in
      let below = g.0 in both_ways (has_work w new a) (idle_after all a h (omega arith)) g.1
  none_after all Close (Use a) h stop h' =
      let new = after_step w all Close in
      let u = uses new a h' in both_ways (has_work w new a) (idle_after all a h u.1) u.2
  none_after all Close Close h stop h' =
      let n = closing_place w in
      let new = after_step w all Close in
      both_ways (has_work w new n) (has_none emptied (work_of w n)
      (λ c. work_units n (emptied c) (omega arith)) all n) (closes new h').1

  -- whoever has work may make its step, but for the closing activity
  pub may_wish : (all : List Count) (a : ℕ) → a < closing_place w
      → may w all (wish_of w a) ≡ has_work w all a
  may_wish all a l = ⊎_elim
      (λ below. ap (may w all) (wish_give a below)
      ∙ ap (λ b. b && has_work w all a) (lt-ltb a w.producers below))
      (λ from. ap (may w all) (wish_use a from l)
      ∙ (ap (λ b. (not b && nat_lt a (closing_place w)) && has_work w all a)
      (le-ltb a w.producers from)
      ∙ ap (λ b. b && has_work w all a) (lt-ltb a (closing_place w) l)))
      (cases_lt a w.producers)

  all_done : (all : List Count) → ((a : ℕ) → a < closing_place w + 1 → legal_step w all a ≡ None)
      → is_closed w all ≡ true
  all_done all none =
      let n = closing_place w in
      ⊎_elim
      (λ busy.
      let idle =
      idle_from all n (λ a l. sym (may_wish all a l)
      ∙ legal_none (may w all (wish_of w a)) (wish_of w a) (none a (omega arith))) in
      let close : may w all Close ≡ true =
      and_from (is_idle_below w all n) (has_work w all n) idle busy in
      absurd (both_ways (may w all (wish_of w n))
      (legal_none (may w all (wish_of w n)) (wish_of w n) (none n (omega arith)))
      (ap (may w all) (wish_close n (omega arith)) ∙ close)))
      (λ done. not_from_false (has_work w all n) done)
      (cases_Bool (has_work w all n))

  who_closes : (all : List Count) (e : Step) → IsSound w all → may w all e ≡ true
      → is_closed w (after_step w all e) ≡ true → is_close e ≡ true
  who_closes all (Give a) s h c = absurd (give_open all a s h c)
  who_closes all (Use a) s h c = absurd (use_open all a s h c)
  who_closes all Close s h c = refl

pub passing_lawful : (w : World) → Lawful (passing w)
passing_lawful w = record {
  as_many = λ all s. s.0;
  stays_sound = λ all e s h. stays w all e s h;
  falls = λ all e s h. lowers w all e s h;
  elsewhere = λ all e p s h out. elsewhere_stays w all e p out;
  touched_below = λ all e p s h t. touched w all e p h t;
  keeper_touched = λ all e s h. actor_touched w all e;
  fits_more = λ n k c l f. omega arith;
  fits_after = λ n all e s h f. fit_after w n all e f;
}

pub passing_turns : (w : World)
    → Turning (passing w) (λ all a. legal_step w all a) (λ e. is_close e) (closing_place w + 1)
passing_turns w = record {
  permits =
      λ all a e s h. let i = legal_is (may w all (wish_of w a)) (wish_of w a) e h in
      subst (λ k. may w all k ≡ true) i.1 i.0;
  closes =
      λ all a e last s h. let i = legal_is (may w all (wish_of w a)) (wish_of w a) e h in
      subst (λ k. is_close k ≡ true) (sym (wish_close w a (omega arith)) ∙ i.1) refl;
  none_follows = λ all s e sound h stop h'. none_after w all s e h stop h';
}

pub passing_closes : (w : World)
    → NeverStuck (passing w) (λ all a. legal_step w all a) (λ e. is_close e) (closing_place w + 1)
    (λ all. is_closed w all)
passing_closes w = record {
  stuck = λ all s none. all_done w all none;
  closing = λ all e s h c. who_closes w all e s h c;
}
