-- For each seed one history is scheduled, and no other.
use Rattle.std.proofs.Common.{◌≡◌, ℕ, zero, suc, ◌<◌, ◌≤◌, Bool, true, false, List, [], ◌∷◌, length, Option, Some, None, ◌⊎◌, inl, inr, refl, sym, ap, ◌∙◌, arith}
use Rattle.be_script.specs.Limits.{IsWithinLimits}
use Rattle.be_script.specs.Script.{Declared}
use Rattle.be_machine.specs.declared.Entry.{Entry}
use Rattle.be_machine.specs.History.{AreLegalFrom, state_from, IsLegalHistory, state_after}
use Rattle.be_machine.specs.Legal.{IsLegal}
use Rattle.be_machine.specs.Schedule.{ready, next_random, chosen, chosen_or_end, entries_from, first_entries, IsScheduled}
use Rattle.be_machine.specs.State.{State, opening_state}
use Rattle.be_machine.specs.Step.{step}
use Rattle.be_machine.proofs.ProgressAfter.{IsSettled, settled_step, opening_settled}
use Rattle.be_machine.proofs.ProgressFinished.{finished_none}
use Rattle.be_machine.proofs.ProgressGoesOn.{settled_goes_on}
use Rattle.be_machine.proofs.ProgressReady.{ready_some, ready_none, chosen_legal, chosen_some, chosen_none}

-- what follows the chosen entry
abbrev rest_of : ℕ → Declared → ℕ → ℕ → State → Entry → List Entry
rest_of turns d seed x s e = entries_from turns d seed (next_random x) (step d s e)

-- ---- the entries are legal

legal_by : (d : Declared) (s : State) (o : Option Entry) (go : Entry → List Entry) → ((e : Entry) → o ≡ Some e → IsLegal d s e) → ((e : Entry) → o ≡ Some e → AreLegalFrom d (step d s e) (go e)) → AreLegalFrom d s (chosen_or_end go o)
unfolding AreLegalFrom
legal_by d s (Some e) go legal later = (legal e refl, later e refl)
legal_by d s None go legal later = tt

legal_from : (turns : ℕ) (d : Declared) (seed x : ℕ) (s : State) → AreLegalFrom d s (entries_from turns d seed x s)
unfolding entries_from AreLegalFrom
legal_from zero d seed x s = tt
legal_from (suc turns) d seed x s =
    legal_by d s (chosen seed (next_random x) (ready d s)) (rest_of turns d seed x s) (λ e is. chosen_legal d s seed (next_random x) e is) (λ e is. legal_from turns d seed (next_random x) (step d s e))

-- ---- where they end before their number, the machine has stopped

stopped_if : (d : Declared) (s : State) (seed x : ℕ) (b : Bool) → s.stopped ≡ b → IsWithinLimits d → IsSettled d s → chosen seed x (ready d s) ≡ None → s.stopped ≡ true
stopped_if d s seed x true is limits h none = is
stopped_if d s seed x false is limits h none =
    let found : (e : Entry) × IsLegal d s e = settled_goes_on d s limits h is in
    absurd (chosen_some seed x (ready d s) (ready_some d s found.0 found.1) none)

stops_by : (d : Declared) (s : State) (seed x turns : ℕ) (o : Option Entry) (go : Entry → List Entry) → chosen seed x (ready d s) ≡ o → IsWithinLimits d → IsSettled d s → ((e : Entry) → IsLegal d s e → length (go e) < turns → (state_from d (step d s e) (go e)).stopped ≡ true) → length (chosen_or_end go o) < suc turns → (state_from d s (chosen_or_end go o)).stopped ≡ true
unfolding state_from
stops_by d s seed x turns (Some e) go is limits h later short = later e (chosen_legal d s seed x e is) (omega (arith, short))
stops_by d s seed x turns None go is limits h later short = stopped_if d s seed x s.stopped refl limits h is

stops_from : (turns : ℕ) (d : Declared) (seed x : ℕ) (s : State) → IsWithinLimits d → IsSettled d s → length (entries_from turns d seed x s) < turns → (state_from d s (entries_from turns d seed x s)).stopped ≡ true
unfolding entries_from
stops_from zero d seed x s limits h short = absurd (omega (arith, short))
stops_from (suc turns) d seed x s limits h short =
    stops_by d s seed (next_random x) turns (chosen seed (next_random x) (ready d s)) (rest_of turns d seed x s) refl limits h
    (λ e legal inside. stops_from turns d seed (next_random x) (step d s e) limits (settled_step d s e limits legal h) inside) short

-- ---- they are as many turns as they are

again_by : (d : Declared) (seed x : ℕ) (s : State) (o : Option Entry) (go : Entry → List Entry) → chosen seed (next_random x) (ready d s) ≡ o → ((e : Entry) → entries_from (length (go e)) d seed (next_random x) (step d s e) ≡ go e) → chosen_or_end go o ≡ entries_from (length (chosen_or_end go o)) d seed x s
unfolding entries_from
again_by d seed x s (Some e) go is same = sym (ap (chosen_or_end (rest_of (length (go e)) d seed x s)) is ∙ ap (λ xs. e ∷ xs) (same e))
again_by d seed x s None go is same = refl

again : (turns : ℕ) (d : Declared) (seed x : ℕ) (s : State) → entries_from turns d seed x s ≡ entries_from (length (entries_from turns d seed x s)) d seed x s
unfolding entries_from
again zero d seed x s = refl
again (suc turns) d seed x s =
    again_by d seed x s (chosen seed (next_random x) (ready d s)) (rest_of turns d seed x s) refl (λ e. sym (again turns d seed (next_random x) (step d s e)))

-- ---- there is one

-- where legal histories have no more entries than a number, each seed has a history
pub one_scheduled : (d : Declared) (seed most : ℕ) → IsWithinLimits d → ((h : List Entry) → IsLegalHistory d h → length h ≤ most) → (h : List Entry) × IsScheduled d seed h
one_scheduled d seed most limits bound =
    let h = first_entries (suc most) d seed in
    let legal : IsLegalHistory d h = legal_from (suc most) d seed seed (opening_state d) in
    let within : length h ≤ most = bound h legal in (
      h,
      record {
        chosen_each = again (suc most) d seed seed (opening_state d);
        finished = record { legal = legal; stopped = stops_from (suc most) d seed seed (opening_state d) limits (opening_settled d limits) (omega (arith, within)) };
      },
    )

-- ---- there is no other

none_by : (d : Declared) (seed x : ℕ) (s : State) (turns : ℕ) → ready d s ≡ [] → entries_from turns d seed x s ≡ []
unfolding entries_from
none_by d seed x s zero none = refl
none_by d seed x s (suc turns) none = ap (chosen_or_end (rest_of turns d seed x s)) (chosen_none seed (next_random x) (ready d s) none)

record SameEntries (d : Declared) (s : State) (e f : Entry) (es fs : List Entry) : Type 0 where
  pub first : f ≡ e
  pub later : es ≡ fs

same_entries : (d : Declared) (s : State) (e f : Entry) (es fs : List Entry) → e ∷ es ≡ f ∷ fs → SameEntries d s e f es fs
same_entries d s e f es fs is = let first : e ≡ f = cc in let later : es ≡ fs = cc in record { first = sym first; later = later }

more_by : (d : Declared) (seed x : ℕ) (s : State) (e : Entry) (es : List Entry) (turns : ℕ) (o : Option Entry) → chosen seed (next_random x) (ready d s) ≡ o → e ∷ es ≡ chosen_or_end (rest_of (length es) d seed x s) o → (es ≡ rest_of (length es) d seed x s e → rest_of turns d seed x s e ≡ es) → entries_from (suc turns) d seed x s ≡ e ∷ es
unfolding entries_from
more_by d seed x s e es turns (Some f) is h go =
    let same : SameEntries d s e f es (rest_of (length es) d seed x s f) = same_entries d s e f es (rest_of (length es) d seed x s f) h in
    let later : es ≡ rest_of (length es) d seed x s e = same.later ∙ ap (rest_of (length es) d seed x s) same.first in
    ap (chosen_or_end (rest_of turns d seed x s)) (is ∙ ap Some same.first) ∙ ap (λ xs. e ∷ xs) (go later)
more_by d seed x s e es turns None is h go = cc

-- a history after which nothing is ready isn't longer with more turns
no_more : (d : Declared) (seed x : ℕ) (s : State) (h : List Entry) (turns : ℕ) → h ≡ entries_from (length h) d seed x s → ready d (state_from d s h) ≡ [] → length h ≤ turns → entries_from turns d seed x s ≡ h
unfolding entries_from state_from
no_more d seed x s [] turns is none short = none_by d seed x s turns none
no_more d seed x s (e ∷ es) zero is none short = absurd (omega (arith, short))
no_more d seed x s (e ∷ es) (suc turns) is none short =
    more_by d seed x s e es turns (chosen seed (next_random x) (ready d s)) refl is (λ later. no_more d seed (next_random x) (step d s e) es turns later none (omega (arith, short)))

shorter : (d : Declared) (seed : ℕ) (h k : List Entry) → IsScheduled d seed h → IsScheduled d seed k → length h ≤ length k → h ≡ k
shorter d seed h k is other short =
    let none : ready d (state_after d h) ≡ [] = ready_none d (state_after d h) (λ a. finished_none d h a is.finished) in
    sym (other.chosen_each ∙ no_more d seed seed (opening_state d) h (length k) is.chosen_each none short)

either : (m n : ℕ) → (m ≤ n) ⊎ (n ≤ m)
either m n = grind arith

by_length : (d : Declared) (seed : ℕ) (h k : List Entry) → IsScheduled d seed h → IsScheduled d seed k → (length h ≤ length k) ⊎ (length k ≤ length h) → h ≡ k
by_length d seed h k is other (inl short) = shorter d seed h k is other short
by_length d seed h k is other (inr short) = sym (shorter d seed k h other is short)

pub scheduled_alone : (d : Declared) (seed : ℕ) (h k : List Entry) → IsScheduled d seed h → IsScheduled d seed k → h ≡ k
scheduled_alone d seed h k is other = by_length d seed h k is other (either (length h) (length k))
