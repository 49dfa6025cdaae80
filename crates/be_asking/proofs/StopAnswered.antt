-- What the closing activity is answered.
use Rattle.std.proofs.Common.{◌≡◌, ℕ, ◌<◌, Bool, true, false, List, length, Some, None, inr, refl, sym, ap, subst, ◌∙◌}
use Rattle.std.specs.Prelude.{◌==◌, ◌&&◌, not, option_and_then, option_map, if◌then◌else◌}
use Rattle.std.specs.List.{list_all, range_with_len}
use Rattle.std.proofs.lemmas.Option.{same_Some}
use Rattle.std.proofs.lemmas.Bool.{false_from_ne_true}
use mathlib.Core.Option.{some}
use lib.ListN.{get_elem?}
use Rattle.be_facts.proofs.Truths.{and_first, and_second}
use Rattle.be_hall.specs.Hands.{meant, part_at}
use Rattle.be_hall.specs.Machine.{Fits, IsHeld}
use Rattle.be_script.specs.Script.{Declared}
use Rattle.be_machine.specs.Activities.{activity_of, closing}
use Rattle.be_machine.specs.Closing.{all_done, all_quiet}
use Rattle.be_machine.specs.declared.Act.TheVariants as act
use Rattle.be_machine.specs.declared.Entry.{Entry}
use Rattle.be_machine.specs.Laws.{IsWantOf}
use Rattle.be_machine.specs.Legal.{IsLegal, legal_act, want_act}
use Rattle.be_machine.specs.Program.{has_ended}
use Rattle.be_machine.specs.State.{State}
use Rattle.be_machine.specs.Touched as part
use Rattle.be_machine.specs.Wants.{stops, want_of}
use Rattle.be_parts.specs.Parts.{meaning_of}
use Rattle.be_parts.specs.declared.part.Part.{Part}
use Rattle.be_rules.specs.Found.{CannotAct, NeedsPart}
use Rattle.be_rules.specs.Places.{place_of}
use Rattle.be_rules.specs.Rules.{IsSound}
use Rattle.be_rules.specs.Slices.{Slice, all_parts, input_in, state_of}
use Rattle.be_rules.proofs.Lawfully.{back, world_lawful}
use Rattle.be_rules.proofs.ListLemmas.{some_there}
use Rattle.be_rules.proofs.Local.{at_place}
use Rattle.be_asking.specs.Deeds.{MayAct}
use Rattle.be_asking.specs.Stopping.{HasAll, HasApps, HasWindows, IsLost, Tells, can_stop}
use Rattle.be_asking.specs.Finding.{IsInHand}
use Rattle.be_asking.proofs.InHand.{input_read, is_held, not_held}
use Rattle.be_asking.proofs.Spotted.{part_there, spot}

-- ---- by the state

stop_legal : (d : Declared) (s : State) (a : ℕ) (b : Bool) → activity_of d a ≡ Some closing → can_stop d s ≡ b → legal_act d s a ≡ (if b then Some act.Stop else None)
unfolding legal_act want_of want_act
stop_legal d s a b number is =
    ap (λ o. option_and_then (want_act d s) (option_and_then (want_of d s) o)) number ∙ ap (λ x. if x then Some act.Stop else None) is

stop_wanted : (d : Declared) (s : State) (e : Entry) (a : ℕ) → activity_of d a ≡ Some closing → e.actor ≡ a → IsWantOf d s e stops
unfolding want_of
stop_wanted d s e a number by =
    ap (λ n. option_and_then (want_of d s) (activity_of d n)) by ∙ ap (option_and_then (want_of d s)) number

-- whatever has a place is in hand
held_below : (d : Declared) (parts : List (ℕ × Part)) → HasAll d parts → (p : ℕ) → p < length (all_parts d) → IsHeld (meant meaning_of parts) p
held_below d parts each p lt =
    let x = some_there (all_parts d) p lt in
    let y = each x.0 (part_there d p x.0 x.1) in
    subst (IsHeld (meant meaning_of parts)) (sym (spot d p x.0 x.1)) (is_held parts (place_of d x.0) y.0 y.1)

module _ (d : Declared) (parts : List (ℕ × Part)) (a : ℕ) (number : activity_of d a ≡ Some closing) where
  abbrev e : Entry
  e = record { actor = a; act = act.Stop }

  pub stops_now : Tells d parts (can_stop d) true → HasAll d parts → MayAct d (meant meaning_of parts) a act.Stop
  stops_now told each all sound fits =
      let legal : IsLegal d (state_of d all) e = stop_legal d (state_of d all) a true number (told all sound fits) in
      (legal, λ p touched. held_below d parts each p ((world_lawful d).touched_below all e p sound legal touched))

  pub stops_later : Tells d parts (can_stop d) false → CannotAct d (meant meaning_of parts) a
  stops_later told all sound fits = stop_legal d (state_of d all) a false number (told all sound fits)

  pub stop_needs : (place : ℕ) → IsLost d parts place → NeedsPart d (meant meaning_of parts) a place
  stop_needs place lost = (
    not_held parts place lost.missing.1,
    λ e by all sound fits. inr (record {
      part = lost.of;
      there = subst (λ p. get_elem? (all_parts d) p ≡ some lost.of) (sym lost.missing.0) (at_place d lost.of lost.there);
      want = stops;
      wanted = stop_wanted d (state_of d all) e a number by;
      touched = tt;
    }),
  )

-- ---- all parts

pub has_all : (d : Declared) (parts : List (ℕ × Part)) → IsInHand d parts part.desk → IsInHand d parts part.input → HasApps d parts → HasWindows d parts → HasAll d parts
has_all d parts desk input apps windows part.desk there = desk
has_all d parts desk input apps windows part.input there = input
has_all d parts desk input apps windows (part.cell m) there = apps m there
has_all d parts desk input apps windows (part.looper w) there = (windows w there).looper
has_all d parts desk input apps windows (part.port w) there = (windows w there).port
has_all d parts desk input apps windows (part.link w) there = (windows w there).link
has_all d parts desk input apps windows (part.pane w) there = (windows w there).pane

-- ---- by the applications

module _ (d : Declared) (parts : List (ℕ × Part)) where
  pub going_on : Tells d parts (λ s. list_all (has_ended d s) (range_with_len 0 (length s.apps))) false → Tells d parts (can_stop d) false
  going_on one all sound fits =
      let s : State = state_of d all in
      false_from_ne_true (can_stop d s) (λ e.
      let done : all_done d s ≡ true = and_second (not s.stopped) (all_done d s) (and_first (not s.stopped && all_done d s) (all_quiet s) e) in
      let ended : list_all (has_ended d s) (range_with_len 0 (length s.apps)) ≡ true = and_first (list_all (has_ended d s) (range_with_len 0 (length s.apps))) (s.events == length d.input) done in
      let same : true ≡ false = sym ended ∙ one all sound fits in
      absurd (cc))

-- ---- by the input in hand

module _ (d : Declared) (parts : List (ℕ × Part)) (y : Part) (at : part_at parts (place_of d part.input) ≡ Some y) where
  module _ (all : List Slice) (sound : IsSound d all) (fits : Fits all (meant meaning_of parts)) where
    pub stopped_is : (b : Bool) → option_map (λ (known : ℕ × Bool). known.1) (input_in (meaning_of y)) ≡ Some b → (state_of d all).stopped ≡ b
    stopped_is b known =
        ap (λ (s : State). s.stopped) (back d all sound)
        ∙ same_Some _ b (ap (option_map (λ (known : ℕ × Bool). known.1)) (input_read d parts all sound fits y at) ∙ known)

    pub events_are : (n : ℕ) → option_map (λ (known : ℕ × Bool). known.0) (input_in (meaning_of y)) ≡ Some n → (state_of d all).events ≡ n
    events_are n known =
        ap (λ (s : State). s.events) (back d all sound)
        ∙ same_Some _ n (ap (option_map (λ (known : ℕ × Bool). known.0)) (input_read d parts all sound fits y at) ∙ known)

  pub has_stopped : option_map (λ (known : ℕ × Bool). known.1) (input_in (meaning_of y)) ≡ Some true → Tells d parts (can_stop d) false
  has_stopped known all sound fits =
      let s : State = state_of d all in
      ap (λ b. not b && all_done d s && all_quiet s) (stopped_is all sound fits true known)

  module _ (n : ℕ) (known : option_map (λ (known : ℕ × Bool). known.0) (input_in (meaning_of y)) ≡ Some n) where
    pub not_used : (n == length d.input) ≡ false → Tells d parts (can_stop d) false
    not_used more all sound fits =
        let s : State = state_of d all in
        false_from_ne_true (can_stop d s) (λ e.
        let done : all_done d s ≡ true = and_second (not s.stopped) (all_done d s) (and_first (not s.stopped && all_done d s) (all_quiet s) e) in
        let used : (s.events == length d.input) ≡ true = and_second (list_all (has_ended d s) (range_with_len 0 (length s.apps))) (s.events == length d.input) done in
        let same : true ≡ false = sym used ∙ ap (λ k. k == length d.input) (events_are all sound fits n known) ∙ more in
        absurd (cc))

    module _ (runs : option_map (λ (known : ℕ × Bool). known.1) (input_in (meaning_of y)) ≡ Some false) (used : (n == length d.input) ≡ true) where
      pub all_told : (ended quiet : Bool) → Tells d parts (λ s. list_all (has_ended d s) (range_with_len 0 (length s.apps))) ended → Tells d parts all_quiet quiet → Tells d parts (can_stop d) (ended && quiet)
      all_told ended quiet one two all sound fits =
          let s : State = state_of d all in
          ap (λ b. not b && all_done d s && all_quiet s) (stopped_is all sound fits false runs)
          ∙ ap (λ b. (b && s.events == length d.input) && all_quiet s) (one all sound fits)
          ∙ ap (λ b. (ended && b) && all_quiet s) (ap (λ k. k == length d.input) (events_are all sound fits n known) ∙ used)
          ∙ ap (λ b. (ended && true) && b) (two all sound fits)
          ∙ ap (λ b. b && quiet) (plain ended)
        where
          plain : (b : Bool) → (b && true) ≡ b
          plain true = refl
          plain false = refl
