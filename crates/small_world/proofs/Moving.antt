-- Counters in hand before and after a step.
use Rattle.std.proofs.Common.{◌≡◌, ◌≢◌, ℕ, ◌+◌, ◌-◌, ◌<◌, ◌≤◌, inr, true, List, Some, set, sym, refl, ap, ◌∙◌, subst, arith}
use Rattle.be_hall.specs.Hands.{places_of, part_at, with_part, meant, rises_from}
use Rattle.be_hall.specs.Machine.{Fits, HeldFit, SomeFits, IsReady}
use Rattle.be_hall.specs.Answers.{HasSpare}
use Rattle.be_hall.specs.Logs.{appended}
use Rattle.be_hall.proofs.Holding.{fits_with, fits_at, same_places, held_part, fit_of, fit_with, fit_after, with_other, meant_with, logs_with, spare_of}
use Rattle.small_world.specs.declared.step.Count.{Count}
use Rattle.small_world.specs.declared.step.Step.{Step}
use Rattle.small_world.specs.declared.step.Step.TheVariants.{Give, Use, Close}
use Rattle.small_world.specs.declared.world.World.{World}
use Rattle.small_world.specs.declared.counter.Counter.{Counter}
use Rattle.small_world.specs.Counting.{gave, used, got, emptied, acted, changed_at, closing_place, target_of, actor_of, after_step, passing}
use Rattle.small_world.specs.Counters as counters
use Rattle.small_world.specs.Counters.{count_of, log_of}
use Rattle.small_world.specs.InHand.{CanAct, Acts, CanHandOver, HandsOver}
use Rattle.small_world.specs.Laws.{actor_touched, gives}
use Rattle.small_world.specs.Changing.{changed_is, Fit}

-- one counter in hand is changed as the rules change it
one_changed : (f : Count → Count) (all : List Count) (held : List (ℕ × Counter)) (p : ℕ)
    (x y : Counter) → rises_from 0 (places_of held) ≡ true → part_at held p ≡ Some x
    → count_of y ≡ f (count_of x)
    → Fits all (meant count_of held)
    → Fits (changed_at f all p) (meant count_of (with_part held p y))
one_changed f all held p x y rises at is fits =
    subst (λ (l : List Count). Fits l (meant count_of (with_part held p y)))
    (ap (λ (c : Count). set all p c) is
    ∙ sym (changed_is f all p (count_of x) (fits_at count_of all p held x at fits)))
    (fits_with count_of all 0 p held y rises fits)

rises_still : (held : List (ℕ × Counter)) (p : ℕ) (y : Counter)
    → rises_from 0 (places_of held) ≡ true → rises_from 0 (places_of (with_part held p y)) ≡ true
rises_still held p y rises = ap (rises_from 0) (same_places held p y) ∙ rises

grown : (n : ℕ) (held : List (ℕ × Counter)) → 0 < n → HeldFit Fit (n - 1) (meant count_of held)
    → HeldFit Fit n (meant count_of held)
grown n held pos h = fit_after count_of Fit (n - 1) n held (λ c k. omega arith) h

-- the counter of the one that made the step fits
acted_fits : (n : ℕ) (step : Step) (c d : Count) → 0 < n → d ≡ acted step c → Fit (n - 1) c
    → Fit n d
acted_fits n (Give a) c d pos is f =
    let u : d.units ≡ c.units = ap (λ (k : Count). k.units) is in omega arith
acted_fits n (Use a) c d pos is f =
    let u : d.units ≡ c.units - 1 = ap (λ (k : Count). k.units) is in omega arith
acted_fits n Close c d pos is f =
    let u : d.units ≡ 0 = ap (λ (k : Count). k.units) is in omega arith

module _ (w : World) (held : List (ℕ × Counter)) where
  -- a step that may be made has its actor's counter in hand
  pub actor_in_hand : (step : Step) → SomeFits (passing w) (meant count_of held)
      → IsReady (passing w) (meant count_of held) step
      → (x : Counter) × (part_at held (actor_of w step) ≡ Some x)
  actor_in_hand step some_list may =
      held_part count_of held (actor_of w step) ((may some_list.0 some_list.1 some_list.2).1
      (actor_of w step) (actor_touched w some_list.0 step))

  pub can_act : (step : Step) → rises_from 0 (places_of held) ≡ true
      → SomeFits (passing w) (meant count_of held) → IsReady (passing w) (meant count_of held) step
      → HasSpare (actor_of w step) (meant counters.spare_of held) → CanAct held (actor_of w step)
  can_act step rises some_list may spare =
      let x = actor_in_hand step some_list may in
      (x.0, x.1, spare_of counters.spare_of 0 held (actor_of w step) x.0 rises x.1 spare)

  module _ (number : ℕ) (mid : List (ℕ × Counter)) where
    -- the one to whom it gives has room for the unit
    pub can_hand_over : (step : Step) → SomeFits (passing w) (meant count_of held)
        → IsReady (passing w) (meant count_of held) step → number ≤ 4611686018427387904
        → HeldFit Fit (number - 1) (meant count_of held)
        → Acts (actor_of w step) step number held mid → CanHandOver w step mid
    can_hand_over (Give a) some_list may small fit did =
        let t = target_of w a in
        let ready = may some_list.0 some_list.1 some_list.2 in
        let g = gives w some_list.0 a ready.0 in
        let below = g.0 in
        let apart : t ≢ a = λ e. omega arith in
        let z = held_part count_of held t (ready.1 t (inr refl)) in
        let units = fit_of count_of Fit (number - 1) held t z.0 z.1 fit in (
          z.0,
          ap (λ (l : List (ℕ × Counter)). part_at l t) did.3
              ∙ (with_other held a t did.1 apart ∙ z.1),
          omega arith,
        )
    can_hand_over (Use a) some_list may small fit did = tt
    can_hand_over Close some_list may small fit did = tt

    module _ (new : List (ℕ × Counter)) where
      pub places_stay : (step : Step) → Acts (actor_of w step) step number held mid
          → HandsOver w step mid new → places_of new ≡ places_of held
      places_stay (Give a) did gave_it =
          ap places_of gave_it.3
          ∙ (same_places mid (target_of w a) gave_it.1
          ∙ (ap places_of did.3 ∙ same_places held a did.1))
      places_stay (Use a) did same =
          ap places_of same ∙ (ap places_of did.3 ∙ same_places held a did.1)
      places_stay Close did same =
          ap places_of same ∙ (ap places_of did.3 ∙ same_places held (closing_place w) did.1)

      -- the actor's counter alone
      acted_alone : (f : Count → Count) (step : Step) (p : ℕ) (all : List Count)
          → ((c : Count) → acted step c ≡ f c) → rises_from 0 (places_of held) ≡ true
          → Acts p step number held mid → Fits all (meant count_of held)
          → Fits (changed_at f all p) (meant count_of mid)
      acted_alone f step p all rule rises did fits =
          subst (λ (l : List (ℕ × Counter)). Fits (changed_at f all p) (meant count_of l))
          (sym did.3) (one_changed f all held p did.0 did.1 rises did.2
          (did.4 ∙ rule (count_of did.0)) fits)

      pub goes_on : (step : Step) (all : List Count) → rises_from 0 (places_of held) ≡ true
          → Acts (actor_of w step) step number held mid → HandsOver w step mid new
          → Fits all (meant count_of held) → Fits (after_step w all step) (meant count_of new)
      goes_on (Give a) all rises did gave_it fits =
          let one = acted_alone gave (Give a) a all (λ c. refl) rises did fits in
          let still : rises_from 0 (places_of mid) ≡ true =
          ap (λ (l : List (ℕ × Counter)). rises_from 0 (places_of l)) did.3
          ∙ rises_still held a did.1 rises in
          subst (λ (l : List (ℕ × Counter)). Fits (changed_at got (changed_at gave all a)
          (target_of w a)) (meant count_of l)) (sym gave_it.3) (one_changed got (changed_at
          gave all a) mid (target_of w a) gave_it.0 gave_it.1 still gave_it.2 gave_it.4 one)
      goes_on (Use a) all rises did same fits =
          subst (λ (l : List (ℕ × Counter)). Fits (changed_at used all a) (meant count_of l))
          (sym same) (acted_alone used (Use a) a all (λ c. refl) rises did fits)
      goes_on Close all rises did same fits =
          subst (λ (l : List (ℕ × Counter)). Fits (changed_at emptied all (closing_place w))
          (meant count_of l)) (sym same) (acted_alone emptied Close (closing_place w) all
          (λ c. refl) rises did fits)

      acted_in_hand : (step : Step) (p : ℕ) → 0 < number → Acts p step number held mid
          → HeldFit Fit (number - 1) (meant count_of held) → HeldFit Fit number (meant count_of mid)
      acted_in_hand step p pos did fit =
          subst (λ (l : List (ℕ × Counter)). HeldFit Fit number (meant count_of l)) (sym did.3)
          (fit_with count_of Fit number held p did.1
          (acted_fits number step (count_of did.0) (count_of did.1) pos did.4
          (fit_of count_of Fit (number - 1) held p did.0 did.2 fit)) (grown number held pos
          fit))

      pub fits_then : (step : Step) → 0 < number → SomeFits (passing w) (meant count_of held)
          → IsReady (passing w) (meant count_of held) step
          → Acts (actor_of w step) step number held mid → HandsOver w step mid new
          → HeldFit Fit (number - 1) (meant count_of held) → HeldFit Fit number (meant count_of new)
      fits_then (Give a) pos some_list may did gave_it fit =
          let t = target_of w a in
          let g = gives w some_list.0 a (may some_list.0 some_list.1 some_list.2).0 in
          let below = g.0 in
          let apart : t ≢ a = λ e. omega arith in
          let before : part_at held t ≡ Some gave_it.0 =
          sym (with_other held a t did.1 apart)
          ∙ (ap (λ (l : List (ℕ × Counter)). part_at l t) (sym did.3) ∙ gave_it.2) in
          let had = fit_of count_of Fit (number - 1) held t gave_it.0 before fit in
          let units : (count_of gave_it.1).units ≡ (count_of gave_it.0).units + 1 =
          ap (λ (k : Count). k.units) gave_it.4 in
          subst (λ (l : List (ℕ × Counter)). HeldFit Fit number (meant count_of l)) (sym gave_it.3)
          (fit_with count_of Fit number mid t gave_it.1 (omega arith)
          (acted_in_hand (Give a) a pos did fit))
      fits_then (Use a) pos some_list may did same fit =
          subst (λ (l : List (ℕ × Counter)). HeldFit Fit number (meant count_of l)) (sym same)
          (acted_in_hand (Use a) a pos did fit)
      fits_then Close pos some_list may did same fit =
          subst (λ (l : List (ℕ × Counter)). HeldFit Fit number (meant count_of l)) (sym same)
          (acted_in_hand Close (closing_place w) pos did fit)

      acted_logs : (step : Step) (p : ℕ) → rises_from 0 (places_of held) ≡ true
          → Acts p step number held mid
          → meant log_of mid ≡ appended p (number, step) (meant log_of held)
      acted_logs step p rises did =
          ap (meant log_of) did.3
          ∙ logs_with log_of 0 held p did.0 did.1 (number, step) rises did.2 did.5

      pub logs_grow : (step : Step) → rises_from 0 (places_of held) ≡ true
          → Acts (actor_of w step) step number held mid → HandsOver w step mid new
          → meant log_of new ≡ appended (actor_of w step) (number, step) (meant log_of held)
      logs_grow (Give a) rises did gave_it =
          ap (meant log_of) gave_it.3
          ∙ (meant_with log_of mid (target_of w a) gave_it.0 gave_it.1 gave_it.2 gave_it.5
          ∙ acted_logs (Give a) a rises did)
      logs_grow (Use a) rises did same = ap (meant log_of) same ∙ acted_logs (Use a) a rises did
      logs_grow Close rises did same =
          ap (meant log_of) same ∙ acted_logs Close (closing_place w) rises did
