-- The end of a run, over slices: nobody is stuck before Stop, and nothing follows it.
use Rattle.std.proofs.Common.{◌≡◌, ℕ, ◌+◌, ◌*◌, Bool, true, false, List, length, Some, None, arith, refl, sym, ap, subst, ◌∙◌}
use Rattle.std.specs.Prelude.{not, ◌&&◌, option_and_then, if◌then◌else◌}
use Rattle.std.proofs.lemmas.Option.{same_Some}
use Rattle.be_script.specs.Script.{Declared}
use Rattle.be_machine.specs.Activities.{closing, activities, activity_of, numbered}
use Rattle.be_machine.specs.Closing.{all_done, all_quiet, stop_act}
use Rattle.be_machine.specs.declared.Act.{Act}
use Rattle.be_machine.specs.declared.Act.TheVariants.{Stop}
use Rattle.be_machine.specs.declared.Entry.{Entry}
use Rattle.be_machine.specs.History.{IsFinished, state_after}
use Rattle.be_machine.specs.Legal.{IsLegal, legal_act, want_act}
use Rattle.be_machine.specs.Orderly.{EndsInStop}
use Rattle.be_machine.specs.State.{State, opening_state}
use Rattle.be_machine.specs.Step.{step}
use Rattle.be_machine.specs.Wants.{want_of}
use Rattle.be_machine.proofs.Histories.{state_more}
use Rattle.be_machine.proofs.ProgressFinished.{finished_none, ends_finished}
use Rattle.be_machine.proofs.ProgressGoesOn.{goes_on}
use Rattle.be_machine.proofs.ProgressStops.{IsTheEnd, end_by_state}
use Rattle.be_rules.specs.Rules.{IsSound}
use Rattle.be_rules.specs.Slices.{Slice, slices, state_of}
use Rattle.be_rules.proofs.Lawfully.{state, back, legal_there, longer, legal_longer, sound_after}

stopped_or : (d : Declared) (all : List Slice) (sound : IsSound d all) (b : Bool) → (state d all sound).stopped ≡ b → ((e : Entry) → IsLegal d (state d all sound) e → ⊥) → b ≡ true
stopped_or d all sound true is none = refl
stopped_or d all sound false is none = let more = goes_on d sound.history sound.limits sound.legal is in absurd (none more.0 more.1)

pub nobody_stuck : (d : Declared) (all : List Slice) → IsSound d all → ((e : Entry) → IsLegal d (state_of d all) e → ⊥) → (state_of d all).stopped ≡ true
nobody_stuck d all sound none =
    ap (λ (s : State). s.stopped) (back d all sound)
    ∙ stopped_or d all sound (state d all sound).stopped refl (λ e legal. none e (subst (λ s. IsLegal d s e) (sym (back d all sound)) legal))

-- the state that the slices after an entry stand for
state_next : (d : Declared) (all : List Slice) (sound : IsSound d all) (e : Entry) (legal : IsLegal d (state_of d all) e) → state_of d (slices d (step d (state_of d all) e)) ≡ state_after d (longer d all sound e legal)
unfolding sound_after
state_next d all sound e legal = back d (slices d (step d (state_of d all) e)) (sound_after d all sound e legal)

by_stop : (d : Declared) (all : List Slice) (sound : IsSound d all) (e : Entry) (b : Bool) → (state d all sound).stopped ≡ b → IsLegal d (state d all sound) e → (step d (state d all sound) e).stopped ≡ true → e.act ≡ Stop
by_stop d all sound e true is legal after =
    let finished : IsFinished d sound.history = record { legal = sound.legal; stopped = is } in
    let no : None ≡ Some e.act = sym (finished_none d sound.history e.actor finished) ∙ legal in
    cc
by_stop d all sound e false is legal after =
    let ends : IsTheEnd d (state d all sound) e = end_by_state d (state d all sound) e legal is after in
    ends.tells.stop

pub stop_stops : (d : Declared) (all : List Slice) (e : Entry) → IsSound d all → IsLegal d (state_of d all) e → (state_of d (slices d (step d (state_of d all) e))).stopped ≡ true → e.act ≡ Stop
stop_stops d all e sound legal after =
    let s : State = state d all sound in
    let there : IsLegal d s e = legal_there d all sound e legal in
    let next : state_of d (slices d (step d (state_of d all) e)) ≡ step d s e = state_next d all sound e legal ∙ state_more d (opening_state d) sound.history e in
    by_stop d all sound e s.stopped refl there (sym (ap (λ (t : State). t.stopped) next) ∙ after)

pub nothing_follows : (d : Declared) (all : List Slice) (s e : Entry) → IsSound d all → IsLegal d (state_of d all) s → s.act ≡ Stop → IsLegal d (state_of d (slices d (step d (state_of d all) s))) e → ⊥
nothing_follows d all s e sound legal stop follows =
    let h : List Entry = longer d all sound s legal in
    let ends : EndsInStop h = record { before = sound.history; last = s; split = refl; stop = stop } in
    let finished : IsFinished d h = ends_finished d h (legal_longer d all sound s legal) ends in
    let no : None ≡ Some e.act = sym (finished_none d h e.actor finished) ∙ ap (λ t. legal_act d t e.actor) (sym (state_next d all sound s legal)) ∙ follows in
    cc

-- ---- the last activity

last_number : (apps windows : ℕ) → numbered apps windows (apps + 2 * windows + 1) ≡ Some closing
last_number apps windows = search arith

it_closes : (d : Declared) (a : ℕ) → a + 1 ≡ activities d → activity_of d a ≡ Some closing
unfolding activity_of
it_closes d a last = ap (numbered (length d.apps) (length d.windows)) (omega (arith, last)) ∙ last_number (length d.apps) (length d.windows)

only_stop : (b : Bool) (act : Act) → (if b then Some Stop else None) ≡ Some act → act ≡ Stop
only_stop true act e = sym (same_Some Stop act e)
only_stop false act e = absurd (cc)

pub last_stops : (d : Declared) (all : List Slice) (a : ℕ) (act : Act) → a + 1 ≡ activities d → legal_act d (state_of d all) a ≡ Some act → act ≡ Stop
unfolding legal_act want_of want_act
last_stops d all a act last legal =
    let s : State = state_of d all in
    let stops : stop_act d s ≡ Some act = sym (ap (λ o. option_and_then (want_act d s) (option_and_then (want_of d s) o)) (it_closes d a last)) ∙ legal in
    only_stop (not s.stopped && all_done d s && all_quiet s) act stops
