-- Every legal history goes on until Stop.
use Rattle.std.proofs.Common.{◌≡◌, ℕ, zero, suc, ◌<◌, false, List, Option, Some, None, ◌⊎◌, inl, inr, refl, subst, arith}
use Rattle.be_script.specs.Limits.{IsWithinLimits}
use Rattle.be_script.specs.Script.{Declared}
use Rattle.be_machine.specs.Activities.{activities}
use Rattle.be_machine.specs.declared.Act.{Act}
use Rattle.be_machine.specs.declared.Entry.{Entry}
use Rattle.be_machine.specs.History.{IsLegalHistory, state_after}
use Rattle.be_machine.specs.Legal.{legal_act, IsLegal}
use Rattle.be_machine.specs.State.{State}
use Rattle.be_machine.proofs.ProgressAfter.{IsSettled, settled_after}
use Rattle.be_machine.proofs.ProgressEnds.{not_stuck}
use Rattle.be_machine.proofs.ProgressStuck.{NobodyActs, nobody_acts, twin_quiet, looper_idle}

-- ---- a search among all activities

legal_cases : (d : Declared) (s : State) (a : ℕ) (o : Option Act) → legal_act d s a ≡ o → ((e : Entry) × IsLegal d s e) ⊎ (legal_act d s a ≡ None)
legal_cases d s a (Some act) is = inl (record { actor = a; act = act }, is)
legal_cases d s a None is = inr is

last_or_below : (d : Declared) (s : State) (n a : ℕ) → ((a : ℕ) → a < n → legal_act d s a ≡ None) → legal_act d s n ≡ None → (a < n) ⊎ (n ≡ a) → legal_act d s a ≡ None
last_or_below d s n a none here (inl below) = none a below
last_or_below d s n a none here (inr same) = subst (λ k. legal_act d s k ≡ None) same here

split : (a n : ℕ) → a < suc n → (a < n) ⊎ (n ≡ a)
split a n h = grind arith

one_more : (d : Declared) (s : State) (n : ℕ) → ((e : Entry) × IsLegal d s e) ⊎ (legal_act d s n ≡ None) → ((e : Entry) × IsLegal d s e) ⊎ ((a : ℕ) → a < n → legal_act d s a ≡ None) → ((e : Entry) × IsLegal d s e) ⊎ ((a : ℕ) → a < suc n → legal_act d s a ≡ None)
one_more d s n here (inl found) = inl found
one_more d s n (inl found) (inr none) = inl found
one_more d s n (inr here) (inr none) = inr (λ a h. last_or_below d s n a none here (split a n h))

-- a legal entry of one of the first n activities, or none of them has one
found_below : (d : Declared) (s : State) (n : ℕ) → ((e : Entry) × IsLegal d s e) ⊎ ((a : ℕ) → a < n → legal_act d s a ≡ None)
found_below d s zero = inr (λ a h. absurd (omega arith))
found_below d s (suc n) = one_more d s n (legal_cases d s n (legal_act d s n) refl) (found_below d s n)

by_search : (d : Declared) (s : State) → IsWithinLimits d → IsSettled d s → s.stopped ≡ false → ((e : Entry) × IsLegal d s e) ⊎ ((a : ℕ) → a < activities d → legal_act d s a ≡ None) → (e : Entry) × IsLegal d s e
by_search d s limits h running (inl found) = found
by_search d s limits h running (inr none) =
    let nobody : NobodyActs d s = nobody_acts d s none in
    absurd (not_stuck d s limits h nobody (λ w inside. twin_quiet d s w h nobody inside) (λ w inside. looper_idle d s w limits h nobody inside) running)

-- in a settled state that hasn't stopped somebody has a legal entry
pub settled_goes_on : (d : Declared) (s : State) → IsWithinLimits d → IsSettled d s → s.stopped ≡ false → (e : Entry) × IsLegal d s e
settled_goes_on d s limits h running = by_search d s limits h running (found_below d s (activities d))

pub goes_on : (d : Declared) (h : List Entry) → IsWithinLimits d → IsLegalHistory d h → (state_after d h).stopped ≡ false → (e : Entry) × IsLegal d (state_after d h) e
goes_on d h limits legal running = settled_goes_on d (state_after d h) limits (settled_after d h limits legal) running
