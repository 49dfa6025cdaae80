-- Whoever is stirred has a mark.
use Rattle.std.proofs.Common.{◌≡◌, ℕ, zero, suc, ◌+◌, ◌*◌, ◌<◌, ◌≤◌, Bool, true, false, List}
use Rattle.std.proofs.Common.{length, Option, Some, None, ◌⊎◌, inl, inr, ⊎_elim, refl, sym, ap}
use Rattle.std.proofs.Common.{subst, ◌∙◌, arith}
use Rattle.std.specs.Prelude.{◌-◌, ◌/◌, ◌%◌, ◌==◌, ◌||◌, nat_lt, if◌then◌else◌}
use Rattle.std.proofs.lemmas.Bool.Decides.{nat_tests}
use Rattle.std.proofs.lemmas.Nat.{div-add-mod'}
use Rattle.be_facts.proofs.Truths.{or_either}
use Rattle.be_machine.specs.Activities.{Activity, runner, app, looper, twin, input, closing}
use Rattle.be_machine.specs.Activities.{activities, activity_of, numbered, window_activity}
use Rattle.be_machine.specs.declared.Act.{Act}
use Rattle.be_machine.specs.declared.Entry.{Entry}
use Rattle.be_script.specs.Script.{Declared}
use Rattle.be_world.specs.Marks.{IsOf, IsTwin, Marks}
use Rattle.be_world.specs.Stirring.{act_window, is_command, is_near, is_window, may_stir}
use Rattle.be_world.specs.Stirring.{may_touch_all, own_window, stirs, stirs_by}
use Rattle.be_world.proofs.Marking.{fewer}

pub both_marked : (these those : ℕ → Type 0) (old mid new : List Bool) → Marks these old mid
    → Marks those mid new → Marks (λ a. these a ⊎ those a) old new
both_marked these those old mid new m k = record {
  long = k.long ∙ m.long;
  kept = λ a lt e. m.kept a lt (k.kept a (subst (λ n. a < n) (sym m.long) lt) e);
  marked = λ a lt e is.
      let lt' : a < length mid = subst (λ n. a < n) (sym m.long) lt in
      ⊎_elim (λ one. m.marked a lt (k.kept a lt' e) one) (λ two. k.marked a lt' e two) is;
}

-- ---- numbers

even : (k : ℕ) → (k % 2 == 0) ≡ true → k ≡ 2 * (k / 2)
even k e =
    let parts : (k / 2) * 2 + k % 2 ≡ k = div-add-mod' k 2 in
    let none : k % 2 ≡ 0 = grind (arith, nat_tests) in
    omega (arith, parts, none)

odd : (k : ℕ) → (k % 2 == 0) ≡ false → k ≡ 2 * (k / 2) + 1
odd k e =
    let parts : (k / 2) * 2 + k % 2 ≡ k = div-add-mod' k 2 in
    let some : 0 < k % 2 = grind (arith, nat_tests) in
    omega (arith, parts, some)

-- it is among those that get marks
abbrev pub IsDue : Act → ℕ → ℕ → Option ℕ → Option ℕ → ℕ → Type 0
IsDue act apps windows own named a =
    (((((a < apps) ⊎ (a ≡ apps + 2 * windows)) ⊎ (a ≡ apps + 2 * windows + 1)) ⊎ IsOf apps own a)
    ⊎ IsOf apps named a)
    ⊎ ((is_command act ≡ true) × IsTwin apps windows a)

module _ (who : Activity) (act : Act) (apps windows a : ℕ) where
  abbrev pub IsAmong : Type 0
  IsAmong = IsDue act apps windows (own_window who) (act_window act) a

  first : a < apps → IsAmong
  first lt = inl (inl (inl (inl (inl lt))))

  module _ (w : ℕ) (is : (a ≡ apps + 2 * w) ⊎ (a ≡ apps + (2 * w + 1))) where
    of_window : (o : Option ℕ) → is_window o w ≡ true → IsOf apps o a
    of_window (Some v) e =
        let same : v ≡ w = grind (arith, nat_tests) in
        subst (λ u. (a ≡ apps + 2 * u) ⊎ (a ≡ apps + (2 * u + 1))) (sym same) is
    of_window None e = absurd (cc)

    near : is_near who act w ≡ true → IsAmong
    near e =
        ⊎_elim (λ own. inl (inl (inr (of_window (own_window who) own))))
        (λ named. inl (inr (of_window (act_window act) named)))
        (or_either (is_window (own_window who) w) (is_window (act_window act) w) e)

  few : (b c : Bool) → b ≡ false → (b || c) ≡ true → c ≡ true
  few true c none e = absurd (cc)
  few false c none e = e

  module _ (all : may_touch_all who ≡ false) where
    by_window : (k : ℕ) (b : Bool) → (k % 2 == 0) ≡ b → a ≡ apps + k → k / 2 < windows
        → stirs_by act (Some who) (Some
        (if b then runner (looper (k / 2)) else twin (k / 2))) ≡ true → IsAmong
    by_window k true e at lt marked =
        near (k / 2) (inl (at ∙ ap (λ n. apps + n) (even k e)))
        (few (may_touch_all who) (is_near who act (k / 2)) all marked)
    by_window k false e at lt marked =
        let odd_at : a ≡ apps + (2 * (k / 2) + 1) = at ∙ ap (λ n. apps + n) (odd k e) in
        ⊎_elim (λ command. inr (command, (k / 2, lt, odd_at)))
        (λ close. near (k / 2) (inr odd_at) close)
        (or_either (is_command act) (is_near who act (k / 2))
        (few (may_touch_all who) (is_command act || is_near who act (k / 2)) all marked))

    half_below : (k : ℕ) → k < 2 * windows → k / 2 < windows
    half_below k lt = let parts : (k / 2) * 2 + k % 2 ≡ k = div-add-mod' k 2 in omega arith

    among_by : (b c e f : Bool) → nat_lt a apps ≡ b → nat_lt a (apps + 2 * windows) ≡ c
        → (a == apps + 2 * windows) ≡ e → (a == apps + 2 * windows + 1) ≡ f
        → stirs_by act (Some who) (if b then Some (runner (app a)) else if c then Some
        (window_activity (a - apps)) else if e then Some input else if f then Some closing else
        None) ≡ true → IsAmong
    among_by true c e f one two three four marked = first (grind (arith, nat_tests))
    among_by false true e f one two three four marked =
        let from : apps ≤ a = grind (arith, nat_tests) in
        let below : a < apps + 2 * windows = grind (arith, nat_tests) in
        by_window (a - apps) ((a - apps) % 2 == 0) refl (omega (arith, from))
        (half_below (a - apps) (omega (arith, from, below))) marked
    among_by false false true f one two three four marked =
        inl (inl (inl (inl (inr (grind (arith, nat_tests))))))
    among_by false false false true one two three four marked =
        inl (inl (inl (inr (grind (arith, nat_tests)))))
    among_by false false false false one two three four marked = absurd (cc)

module _ (d : Declared) (e : Entry) (who : Activity) (number : activity_of d e.actor ≡ Some who)
    (a : ℕ) where
  pub among : may_touch_all who ≡ false → may_stir d e a ≡ true
      → IsAmong who e.act (length d.apps) (length d.windows) a
  unfolding activity_of
  among all marked =
      among_by who e.act (length d.apps) (length d.windows) a all _ _ _ _ refl refl refl refl
      (ap (λ o. stirs_by e.act o (activity_of d a)) (sym number) ∙ marked)

-- all marks, one after the other
module _ (d : Declared) (e : Entry) (who : Activity) (number : activity_of d e.actor ≡ Some who)
    (few : may_touch_all who ≡ false) (apps windows : ℕ) (apps_is : apps ≡ length d.apps)
    (windows_is : windows ≡ length d.windows) (own named : Option ℕ)
    (own_is : own ≡ own_window who) (named_is : named ≡ act_window e.act) where
  due : (a : ℕ) → may_stir d e a ≡ true → IsDue e.act apps windows own named a
  due a stirred =
      let m = length d.apps in
      let n = length d.windows in
      subst (λ k. IsDue e.act k windows own named a) (sym apps_is)
      (subst (λ k. IsDue e.act m k own named a) (sym windows_is)
      (subst (λ o. IsDue e.act m n o named a) (sym own_is)
      (subst (λ o. IsDue e.act m n (own_window who) o a) (sym named_is)
      (among d e who number a few stirred))))

  module _ (m0 m1 m2 m3 m4 m5 m6 : List Bool) where
    pub all_marked : Marks (λ a. a < apps) m0 m1 → Marks (λ a. a ≡ apps + 2 * windows) m1 m2
        → Marks (λ a. a ≡ apps + 2 * windows + 1) m2 m3 → Marks (IsOf apps own) m3 m4
        → Marks (IsOf apps named) m4 m5
        → Marks (λ a. (is_command e.act ≡ true) × IsTwin apps windows a) m5 m6
        → Marks (λ a. may_stir d e a ≡ true) m0 m6
    all_marked first second third fourth fifth sixth =
        let one = both_marked _ _ m0 m1 m2 first second in
        let two = both_marked _ _ m0 m2 m3 one third in
        let three = both_marked _ _ m0 m3 m4 two fourth in
        let four = both_marked _ _ m0 m4 m5 three fifth in
        let all = both_marked _ _ m0 m5 m6 four sixth in
        fewer (IsDue e.act apps windows own named) (λ a. may_stir d e a ≡ true) m0 m6 all due
