-- With all parts in hand an answer tells whether there is a legal act.
use Rattle.std.proofs.Common.{◌≡◌, ℕ, ◌<◌, Bool, true, false, List, length, Some, None, inl, inr, refl, sym, ap, ◌∙◌, subst}
use Rattle.std.specs.Borrow.{Bor}
use Rattle.std.specs.Prelude.{◌+◌, is_some, option_and_then, if◌then◌else◌}
use Rattle.std.proofs.lemmas.Option.{same_Some}
use Rattle.be_command.specs.declared.Command.TheVariants as command
use Rattle.be_geom.specs.declared.change.Change.{Change}
use Rattle.be_hall.specs.Hands.{meant, part_at}
use Rattle.be_hall.specs.Machine.{Fits}
use Rattle.be_machine.specs.Activities.{Activity, activity_of}
use Rattle.be_machine.specs.declared.Act.{Act}
use Rattle.be_machine.specs.declared.Act.TheVariants.{Event, Stop}
use Rattle.be_machine.specs.declared.Entry.{Entry}
use Rattle.be_machine.specs.Legal.{legal_act, want_act}
use Rattle.be_machine.specs.Program.{has_ended}
use Rattle.be_machine.specs.State.{State}
use Rattle.be_machine.specs.Touched as part
use Rattle.be_machine.specs.Wants as wants
use Rattle.be_machine.specs.Wants.{want_of}
use Rattle.be_machine.proofs.Histories.{in_range}
use Rattle.be_parts.specs.Parts.{meaning_of}
use Rattle.be_parts.specs.declared.part.Part as parts
use Rattle.be_rules.specs.Places.{place_of}
use Rattle.be_rules.specs.Rules.{IsSound, TouchesAt, kept_at}
use Rattle.be_rules.specs.Slices.{Slice, all_parts, state_of}
use Rattle.be_rules.proofs.Keepers.{kept_there, own_of}
use Rattle.be_rules.proofs.Lawfully.{back}
use Rattle.be_rules.proofs.ListLemmas.{there_in}
use Rattle.be_rules.proofs.Local.{at_place}
use Rattle.be_rules.proofs.Told.{one_list}
use Rattle.be_rules.specs.Sure.{IsAmong, parts_by, seen_in}
use Rattle.be_script.specs.Script.{Declared}
use Rattle.be_script.specs.declared.InputLine.{InputLine}
use Rattle.be_script.specs.declared.InputLine.TheVariants as line
use Rattle.be_asking.specs.Deeds.{IsAnswer, IsAsked}
use Rattle.be_asking.specs.Executing.{IsOldest}
use Rattle.be_asking.specs.Finding.{IsMissing, IsReachable}
use Rattle.be_asking.specs.Wants.{activity_in}
use Rattle.be_asking.specs.declared.activity.Activity as activities
use Rattle.be_asking.specs.declared.activity.Activity.TheVariants as who
use Rattle.be_asking.specs.declared.want.Want as asking
use Rattle.be_asking.specs.declared.want.Want.TheVariants as want
use Rattle.be_asking.specs.declared.deed.Answer.{Answer}
use Rattle.be_asking.specs.declared.deed.Answer.TheVariants.{May, NotYet, Needs}
use Rattle.be_asking.specs.Having.{AreAllHeld, TellsAct, TellsEnd, awaited, is_may}
use Rattle.be_asking.proofs.Asked.{reach, s, sound, wanted, wish}
use Rattle.be_asking.proofs.ChangesAnswered.{acts_now}
use Rattle.be_asking.proofs.InHand.{not_held}

module _ (d : Declared) (a : ℕ) (who : Activity) (number : activity_of d a ≡ Some who) where
  -- what an entry of the activity touches is one of the script's parts
  pub touched_below : (t : State) (e : Entry) (p : ℕ) → e.actor ≡ a → TouchesAt d t e p → p < length (all_parts d)
  touched_below t e p by (inl is) =
      let at : p ≡ kept_at d (Some who) = is ∙ ap (λ (n : ℕ). kept_at d (activity_of d n)) by ∙ ap (kept_at d) number in
      subst (λ (k : ℕ). k < length (all_parts d)) (sym at) (there_in (all_parts d) (kept_at d (Some who)) (own_of who) (kept_there d who (in_range d a who number)))
  touched_below t e p by (inr touched) = there_in (all_parts d) p touched.part touched.there

  pub tells : (held : List (ℕ × Slice)) → AreAllHeld d held → (answer : Answer) → IsAnswer d held a answer → TellsAct d held a (is_may answer)
  tells held each (May deed) can all sound fits = sym (ap is_some (can all sound fits).0)
  tells held each NotYet cannot all sound fits = sym (ap is_some (cannot all sound fits))
  tells held each (Needs p) needs all sound fits =
      let e : Entry = record { actor = a; act = Stop } in
      absurd (needs.0 (each p (touched_below (state_of d all) e p refl (needs.1 e refl all sound fits))))

-- what is so in one sound list is so in each
pub tells_all : (d : Declared) (held : List (ℕ × Slice)) (a : ℕ) (has : Bool) (one : List Slice) → IsSound d one → Fits one held → AreAllHeld d held → has ≡ is_some (legal_act d (state_of d one) a) → TellsAct d held a has
tells_all d held a has one sound fits each is other sound' fits' = is ∙ ap (λ (l : List Slice). is_some (legal_act d (state_of d l) a)) (sym (one_list d held one other sound sound' fits fits' each))

module _ (d : Declared) (inhand : List (ℕ × parts.Part)) (a : ℕ) (it : activities.Activity) (asks : asking.Want) (asked : IsAsked d inhand a it asks) where
  abbrev now : State
  now = s d inhand a it asks asked

  legal_is : legal_act d (state_of d asked.fitting.0) a ≡ want_act d now (wish d inhand a it asks asked)
  unfolding legal_act
  legal_is =
      ap (λ (t : State). option_and_then (want_act d t) (option_and_then (want_of d t) (activity_of d a))) (back d asked.fitting.0 (sound d inhand a it asks asked))
      ∙ ap (λ o. option_and_then (want_act d now) (option_and_then (want_of d now) o)) asked.number
      ∙ ap (option_and_then (want_act d now)) (wanted d inhand a it asks asked)

  module _ (each : AreAllHeld d (meant meaning_of inhand)) where
    -- by whether the want can be met in one list
    pub told_by : (has : Bool) → has ≡ is_some (want_act d now (wish d inhand a it asks asked)) → TellsAct d (meant meaning_of inhand) a has
    told_by has is = tells_all d (meant meaning_of inhand) a has asked.fitting.0 (sound d inhand a it asks asked) asked.fitting.2 each (is ∙ ap is_some (sym legal_is))

    -- by an answer
    pub told : (answer : Answer) → IsAnswer d (meant meaning_of inhand) a answer → (has : Bool) → has ≡ is_may answer → TellsAct d (meant meaning_of inhand) a has
    told answer is has same all fair fits = same ∙ tells d a (activity_in it) asked.number (meant meaning_of inhand) each answer is all fair fits

-- a change is executed
pub change_told : (d : Declared) (inhand : List (ℕ × parts.Part)) (a w : ℕ) (asked : IsAsked d inhand a (who.Twin w) (want.Executes w)) (n : ℕ) (change : Change) → IsOldest d inhand w n (command.Change change) → AreAllHeld d (meant meaning_of inhand) → TellsAct d (meant meaning_of inhand) a true
change_told d inhand a w asked n change oldest each = told_by d inhand a (who.Twin w) (want.Executes w) asked each true (sym (ap is_some (acts_now d inhand a w asked n change oldest)))

-- ---- lines of the input

-- an event of the mouse or a key happens
happens : (d : Declared) (t : State) (it : InputLine) → None ≡ awaited it → is_some (want_act d t (wants.uses it)) ≡ true
unfolding want_act
happens d t (line.Press at) is = refl
happens d t (line.Release at) is = refl
happens d t (line.Move at) is = refl
happens d t (line.Key key) is = refl
happens d t (line.After m) is = absurd (cc)

waits_for : (it : InputLine) (m : ℕ) → Some m ≡ awaited it → it ≡ line.After m
waits_for (line.Press at) m is = absurd (cc)
waits_for (line.Release at) m is = absurd (cc)
waits_for (line.Move at) m is = absurd (cc)
waits_for (line.Key key) m is = absurd (cc)
waits_for (line.After n) m is = ap line.After (sym (same_Some m n is))

ends_by : (d : Declared) (t : State) (m : ℕ) → is_some (want_act d t (wants.uses (line.After m))) ≡ has_ended d t m
unfolding want_act
ends_by d t m = by_test (has_ended d t m) (Event (t.events + 1) None None)
  where
    by_test : (b : Bool) (act : Act) → is_some (if b then Some act else None) ≡ b
    by_test true act = refl
    by_test false act = refl

module _ (d : Declared) (inhand : List (ℕ × parts.Part)) (a : ℕ) (lent : Bor InputLine) (asked : IsAsked d inhand a who.Input (want.Uses lent)) where
  pub happens_now : None ≡ awaited lent.now → AreAllHeld d (meant meaning_of inhand) → TellsAct d (meant meaning_of inhand) a true
  happens_now free each =
      told_by d inhand a who.Input (want.Uses lent) asked each true (sym (happens d (s d inhand a who.Input (want.Uses lent) asked) lent.now free))

  module _ (m : ℕ) (waits : Some m ≡ awaited lent.now) where
    is : lent.now ≡ line.After m
    is = waits_for lent.now m waits

    pub reach_cell : IsReachable d inhand (part.cell m)
    reach_cell =
        reach d inhand a who.Input (want.Uses lent) asked (part.cell m)
        (subst (λ (x : InputLine). IsAmong (part.cell m) (parts_by (seen_in (s d inhand a who.Input (want.Uses lent) asked)) (wants.uses x))) (sym is) (inr (inl refl)))

    pub ends_now : (ended : Bool) → TellsEnd d (meant meaning_of inhand) m ended → AreAllHeld d (meant meaning_of inhand) → TellsAct d (meant meaning_of inhand) a ended
    ends_now ended tells_end each =
        let t : State = s d inhand a who.Input (want.Uses lent) asked in
        told_by d inhand a who.Input (want.Uses lent) asked each ended
        (tells_end asked.fitting.0 (sound d inhand a who.Input (want.Uses lent) asked) asked.fitting.2
        ∙ ap (λ (z : State). has_ended d z m) (back d asked.fitting.0 (sound d inhand a who.Input (want.Uses lent) asked))
        ∙ sym (ends_by d t m)
        ∙ ap (λ (x : InputLine). is_some (want_act d t (wants.uses x))) (sym is))

    pub cell_missing : (place : ℕ) → IsMissing d inhand (part.cell m) place → AreAllHeld d (meant meaning_of inhand) → ⊥
    cell_missing place gone each =
        not_held inhand (place_of d (part.cell m)) (ap (λ p. part_at inhand p) (sym gone.0) ∙ gone.1)
        (each (place_of d (part.cell m)) (there_in (all_parts d) (place_of d (part.cell m)) (part.cell m) (at_place d (part.cell m) reach_cell.there)))
