-- What the parts in hand tell of an activity, said of the state that a list stands for.
use Rattle.std.proofs.Common.{◌≡◌, ℕ, ◌<◌, ◌≤◌, Bool, true, false, List, length, Some, None, refl, sym, ap, subst, ◌∙◌, arith}
use Rattle.std.specs.Prelude.{nat_lt, slice_get, option_and_then}
use Rattle.std.proofs.lemmas.Bool.Decides.{nat_tests}
use Rattle.std.proofs.lemmas.List.{length-map}
use lib.ListN.{get_elem?}
use Rattle.be_command.specs.Effects.{changes, effect_of}
use Rattle.be_geom.specs.declared.change.Change.{Change}
use Rattle.be_geom.specs.declared.change.Change.TheVariants.{Activate}
use Rattle.be_hall.specs.Machine.{Fits, IsHeld}
use Rattle.be_input.specs.declared.Event.{Event}
use Rattle.be_link.specs.Queues.{Numbered}
use Rattle.be_script.specs.declared.InputLine.{InputLine}
use Rattle.be_script.specs.Script.{Declared}
use Rattle.be_machine.specs.Activities.{Activity, activity_of, input, twin}
use Rattle.be_machine.specs.Input.{delivery_of}
use Rattle.be_machine.specs.Legal.{legal_act, want_act}
use Rattle.be_machine.specs.State.{State}
use Rattle.be_machine.specs.Touched.{Part}
use Rattle.be_machine.specs.Touched as part
use Rattle.be_machine.specs.Wants.{Want, executes, stops, uses, want_of}
use Rattle.be_machine.proofs.Histories.{in_range}
use Rattle.be_machine.proofs.ProgressAfter.{IsSettled, settled_after}
use Rattle.be_rules.specs.Far.{IsAltered, event_in}
use Rattle.be_rules.specs.Found.{CannotAct, NeedsPart, OwnHeld}
use Rattle.be_rules.specs.Places.{IsPart, place_of}
use Rattle.be_rules.specs.Rules.{IsSound}
use Rattle.be_rules.specs.Slices.{Slice, all_parts, slice_of, state_of}
use Rattle.be_rules.specs.Sure.{IsAmong, in_hand, parts_by, seen_in}
use Rattle.be_rules.proofs.Everywhere.{same_place, wants_same, needs_part, cannot_act, has_no_act}
use Rattle.be_rules.proofs.Far.{needs_altered, needs_activated}
use Rattle.be_rules.proofs.Lawfully.{state, back}
use Rattle.be_rules.proofs.ListLemmas.{past_elements, same_by_elements}
use Rattle.be_rules.proofs.Named.{parts_named}

pub wants_known : (d : Declared) (held : List (ℕ × Slice)) (all other : List Slice) (who : Activity) → IsSound d all → IsSound d other → Fits all held → Fits other held → OwnHeld d held all who → want_of d (state_of d other) who ≡ want_of d (state_of d all) who
wants_known d held all other who sound sound' fits fits' own =
    ap (λ s. want_of d s who) (back d other sound') ∙ wants_same d held all other sound sound' fits fits' who own ∙ ap (λ s. want_of d s who) (sym (back d all sound))

pub parts_are_known : (d : Declared) (all : List Slice) (a : ℕ) (who : Activity) (want : Want) (p : Part) → IsSound d all → activity_of d a ≡ Some who → want_of d (state_of d all) who ≡ Some want → IsAmong p (parts_by (seen_in (state_of d all)) want) → IsPart d p
parts_are_known d all a who want p sound number wanted among =
    let is : state_of d all ≡ state d all sound = back d all sound in
    let settled : IsSettled d (state d all sound) = settled_after d sound.history sound.limits sound.legal in
    parts_named d (state d all sound) settled sound.limits who want (in_range d a who number) (subst (λ s. want_of d s who ≡ Some want) is wanted) p (subst (λ s. IsAmong p (parts_by (seen_in s) want)) is among)

pub parts_needed : (d : Declared) (held : List (ℕ × Slice)) (all : List Slice) (a : ℕ) (who : Activity) (want : Want) (p : Part) → IsSound d all → Fits all held → activity_of d a ≡ Some who → OwnHeld d held all who → want_of d (state_of d all) who ≡ Some want → IsPart d p → IsAmong p (parts_by (in_hand d held) want) → (IsHeld held (place_of d p) → ⊥) → NeedsPart d held a (place_of d p)
parts_needed d held all a who want p sound fits number own wanted there among out =
    needs_part d held all sound fits a who want p number own (subst (λ s. want_of d s who ≡ Some want) (back d all sound) wanted) there among out

pub waiting_known : (d : Declared) (held : List (ℕ × Slice)) (all : List Slice) (a : ℕ) (who : Activity) (want : Want) → IsSound d all → Fits all held → activity_of d a ≡ Some who → OwnHeld d held all who → want_of d (state_of d all) who ≡ Some want → (want ≡ stops → ⊥) → ((p : Part) → IsAmong p (parts_by (seen_in (state_of d all)) want) → IsHeld held (place_of d p)) → want_act d (state_of d all) want ≡ None → CannotAct d held a
waiting_known d held all a who want sound fits number own wanted still parts none =
    let is : state_of d all ≡ state d all sound = back d all sound in
    cannot_act d held all sound fits a who want number own (subst (λ s. want_of d s who ≡ Some want) is wanted) still (λ p among. parts p (subst (λ s. IsAmong p (parts_by (seen_in s) want)) (sym is) among)) (subst (λ s. want_act d s want ≡ None) is none)

pub ending_known : (d : Declared) (held : List (ℕ × Slice)) (all : List Slice) (a : ℕ) (who : Activity) → IsSound d all → Fits all held → activity_of d a ≡ Some who → OwnHeld d held all who → want_of d (state_of d all) who ≡ None → CannotAct d held a
ending_known d held all a who sound fits number own wanted =
    has_no_act d held all sound fits a who number own (subst (λ s. want_of d s who ≡ None) (back d all sound) wanted)

-- ---- with all parts in hand

as_long : (d : Declared) (all : List Slice) → IsSound d all → length all ≡ length (all_parts d)
as_long d all sound = ap (λ (l : List Slice). length l) sound.is ∙ length-map (all_parts d) (slice_of (state d all sound))

pub one_list : (d : Declared) (held : List (ℕ × Slice)) (all other : List Slice) → IsSound d all → IsSound d other → Fits all held → Fits other held → ((p : ℕ) → p < length (all_parts d) → IsHeld held p) → other ≡ all
one_list d held all other sound sound' fits fits' each = same_by_elements other all (λ p. at p (nat_lt p (length (all_parts d))) refl)
  where
    at : (p : ℕ) (b : Bool) → nat_lt p (length (all_parts d)) ≡ b → get_elem? other p ≡ get_elem? all p
    at p true e = sym (same_place all other held p fits fits' (each p (grind (arith, nat_tests))))
    at p false e =
        let past : length (all_parts d) ≤ p = grind (arith, nat_tests) in
        past_elements other p (subst (λ n. n ≤ p) (sym (as_long d other sound')) past) ∙ sym (past_elements all p (subst (λ n. n ≤ p) (sym (as_long d all sound)) past))

pub none_with_all : (d : Declared) (held : List (ℕ × Slice)) (all : List Slice) (a : ℕ) → IsSound d all → Fits all held → ((p : ℕ) → p < length (all_parts d) → IsHeld held p) → legal_act d (state_of d all) a ≡ None → CannotAct d held a
none_with_all d held all a sound fits each none other sound' fits' = ap (λ l. legal_act d (state_of d l) a) (one_list d held all other sound sound' fits fits' each) ∙ none

-- ---- panes that a change alters

pub altered_needed : (d : Declared) (held : List (ℕ × Slice)) (all : List Slice) (a w u : ℕ) (c : Numbered) (change : Change) → IsSound d all → Fits all held → activity_of d a ≡ Some (twin w) → OwnHeld d held all (twin w) → IsHeld held (place_of d part.desk) → IsHeld held (place_of d (part.link w)) → want_of d (state_of d all) (twin w) ≡ Some (executes w) → option_and_then (λ l. slice_get l 0) (slice_get (state_of d all).links w) ≡ Some c → effect_of c.command ≡ changes change → IsAltered (state_of d all).desk w change u → IsPart d (part.pane u) → (IsHeld held (place_of d (part.pane u)) → ⊥) → NeedsPart d held a (place_of d (part.pane u))
altered_needed d held all a w u c change sound fits number own desk link wanted front effect other there out =
    let is : state_of d all ≡ state d all sound = back d all sound in
    needs_altered d held all sound fits a w u c change number own desk link (subst (λ s. want_of d s (twin w) ≡ Some (executes w)) is wanted) (subst (λ (s : State). option_and_then (λ l. slice_get l 0) (slice_get s.links w) ≡ Some c) is front) effect (subst (λ (s : State). IsAltered s.desk w change u) is other) there out

pub activated_needed : (d : Declared) (held : List (ℕ × Slice)) (all : List Slice) (a w u : ℕ) (it : InputLine) (ev : Event) → IsSound d all → Fits all held → event_in it ≡ Some ev → activity_of d a ≡ Some input → OwnHeld d held all input → IsHeld held (place_of d part.desk) → want_of d (state_of d all) input ≡ Some (uses it) → (delivery_of (state_of d all) ev).activate ≡ Some w → IsAltered (state_of d all).desk w Activate u → IsPart d (part.pane u) → (IsHeld held (place_of d (part.pane u)) → ⊥) → NeedsPart d held a (place_of d (part.pane u))
activated_needed d held all a w u it ev sound fits event number own desk wanted active other there out =
    let is : state_of d all ≡ state d all sound = back d all sound in
    needs_activated d held all sound fits a w u it ev event number own desk (subst (λ s. want_of d s input ≡ Some (uses it)) is wanted) (subst (λ s. (delivery_of s ev).activate ≡ Some w) is active) (subst (λ (s : State). IsAltered s.desk w Activate u) is other) there out
