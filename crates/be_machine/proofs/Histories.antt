-- A history with one entry more, what every state after one has, and who an activity's number is.
use Rattle.std.proofs.Common.{◌≡◌, ℕ, ◌+◌, ◌*◌, ◌<◌, Bool, true, false, List, [], ◌∷◌, ◌++◌, length, Some, None, refl, subst, arith}
use Rattle.std.specs.Prelude.{◌-◌, ◌/◌, ◌%◌, ◌==◌, nat_lt, if◌then◌else◌}
use Rattle.std.proofs.lemmas.Bool.Decides.{nat_tests}
use Rattle.std.proofs.lemmas.Nat.{div-add-mod'}
use Rattle.std.proofs.lemmas.Option.{same_Some}
use Rattle.be_script.specs.Script.{Declared}
use Rattle.be_machine.specs.Activities.{Activity, runner, app, looper, twin, input, closing, window_activity, activity_of}
use Rattle.be_machine.specs.declared.Entry.{Entry}
use Rattle.be_machine.specs.History.{AreLegalFrom, IsLegalHistory, state_from, state_after}
use Rattle.be_machine.specs.Legal.{IsLegal}
use Rattle.be_machine.specs.State.{State, opening_state}
use Rattle.be_machine.specs.Step.{step}
use Rattle.be_machine.proofs.HasParts.{HasParts, parts_from}
use Rattle.be_machine.proofs.Opening.{parts_opening}

-- ---- one entry more

pub legal_more : (d : Declared) (s : State) (h : List Entry) (e : Entry) → AreLegalFrom d s h → IsLegal d (state_from d s h) e → AreLegalFrom d s (h ++ e ∷ [])
unfolding AreLegalFrom state_from
legal_more d s [] e legal now = (now, tt)
legal_more d s (x ∷ xs) e legal now = (legal.0, legal_more d (step d s x) xs e legal.1 now)

pub state_more : (d : Declared) (s : State) (h : List Entry) (e : Entry) → state_from d s (h ++ e ∷ []) ≡ step d (state_from d s h) e
unfolding state_from
state_more d s [] e = refl
state_more d s (x ∷ xs) e = state_more d (step d s x) xs e

-- ---- what holds after every legal history

pub parts_after : (d : Declared) (h : List Entry) → IsLegalHistory d h → HasParts d (state_after d h)
parts_after d h legal = parts_from d (opening_state d) h legal (parts_opening d)

-- ---- the numbers of activities

-- there is such an application, or such a window
abbrev pub InRange : ℕ → ℕ → Activity → Type 0
InRange apps windows (runner (app m)) = m < apps
InRange apps windows (runner (looper w)) = w < windows
InRange apps windows (twin w) = w < windows
InRange apps windows input = Unit {0}
InRange apps windows closing = Unit {0}

half_below : (k n : ℕ) → k < 2 * n → k / 2 < n
half_below k n lt = let parts : (k / 2) * 2 + k % 2 ≡ k = div-add-mod' k 2 in omega arith

window_in_range : (apps windows k : ℕ) (b : Bool) → (k % 2 == 0) ≡ b → k / 2 < windows → InRange apps windows (if b then runner (looper (k / 2)) else twin (k / 2))
window_in_range apps windows k true e lt = lt
window_in_range apps windows k false e lt = lt

range_by : (apps windows a : ℕ) (b c e f : Bool) (who : Activity) → nat_lt a apps ≡ b → nat_lt a (apps + 2 * windows) ≡ c → (if b then Some (runner (app a)) else if c then Some (window_activity (a - apps)) else if e then Some input else if f then Some closing else None) ≡ Some who → InRange apps windows who
range_by apps windows a true c e f who first second is = let lt : a < apps = grind (arith, nat_tests) in subst (InRange apps windows) (same_Some _ who is) lt
range_by apps windows a false true e f who first second is =
    let lt : a < apps + 2 * windows = grind (arith, nat_tests) in
    let below : a - apps < 2 * windows = grind (arith, nat_tests) in
    subst (InRange apps windows) (same_Some _ who is) (window_in_range apps windows (a - apps) ((a - apps) % 2 == 0) refl (half_below (a - apps) windows below))
range_by apps windows a false false true f who first second is = subst (InRange apps windows) (same_Some _ who is) tt
range_by apps windows a false false false true who first second is = subst (InRange apps windows) (same_Some _ who is) tt
range_by apps windows a false false false false who first second is = absurd (cc)

pub in_range : (d : Declared) (a : ℕ) (who : Activity) → activity_of d a ≡ Some who → InRange (length d.apps) (length d.windows) who
unfolding activity_of
in_range d a who e = range_by (length d.apps) (length d.windows) a _ _ _ _ who refl refl e
