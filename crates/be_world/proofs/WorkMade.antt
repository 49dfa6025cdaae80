-- What is made for an entry, and what is told of it.
use Rattle.std.proofs.Common.{◌≡◌, ℕ, true, List, None, Some, inl, refl, sym, ap, ◌∙◌}
use Rattle.std.specs.Prelude.{option_and_then, slice_get}
use Rattle.be_asking.proofs.ExecutesAnswered.{nothing_linked}
use Rattle.be_asking.specs.Deeds.{IsAsked, MayAct}
use Rattle.be_asking.specs.Wants.{IsWanted, activity_in}
use Rattle.be_asking.specs.declared.activity.Activity.{Activity}
use Rattle.be_asking.specs.declared.activity.Activity.TheVariants as who
use Rattle.be_asking.specs.declared.want.Want.{Want}
use Rattle.be_asking.specs.declared.want.Want.TheVariants as want
use Rattle.be_asking.specs.declared.want.Wanted.TheVariants.{Nothing}
use Rattle.be_changes.specs.declared.events.Delivered.{Delivered}
use Rattle.be_hall.specs.Hands.{meant, part_at, places_of, rises_from}
use Rattle.be_hall.specs.Machine.{Fits}
use Rattle.be_input.specs.declared.Event.{Event}
use Rattle.be_link.specs.Queues.{Numbered}
use Rattle.be_machine.specs.Activities.{activity_of}
use Rattle.be_machine.specs.Legal.{IsLegal, legal_act, want_act}
use Rattle.be_machine.specs.State.{State}
use Rattle.be_machine.specs.Touched as part
use Rattle.be_machine.specs.Wants.{want_of}
use Rattle.be_machine.specs.declared.Act.{Act}
use Rattle.be_machine.specs.declared.Entry.{Entry}
use Rattle.be_parts.specs.Parts.{meaning_of}
use Rattle.be_parts.specs.declared.part.Part.{Part}
use Rattle.be_parts.specs.declared.part.Part.TheVariants as kinds
use Rattle.be_ready.specs.Happening.{DeliversIn}
use Rattle.be_rules.specs.Far.{event_in}
use Rattle.be_rules.specs.Places.{place_of}
use Rattle.be_rules.specs.Rules.{IsSound}
use Rattle.be_rules.specs.Slices.{Slice, link_in, state_of}
use Rattle.be_script.specs.Script.{Declared}
use Rattle.be_script.specs.declared.InputLine.{InputLine}
use Rattle.be_script.specs.declared.InputLine.TheVariants as line
use Rattle.be_steps.proofs.Making.{there}
use Rattle.be_steps.specs.Steps.{IsAllowed}
use Rattle.be_steps.specs.There.{IsThere}
use Rattle.be_world.specs.Suits.{IsPrepared, IsSuited, MayStep, SuitsLine}
use Rattle.be_world.specs.Turns.{entry_by}
use Rattle.be_world.specs.declared.work.Work.{Work}
use Rattle.be_world.specs.declared.work.Work.TheVariants as work
use Rattle.be_world.proofs.Allowed.{prepared}

-- ---- the command that a twin executes

module _ (d : Declared) (parts : List (ℕ × Part)) (w : ℕ)
    (allowed : IsAllowed d parts (who.Twin w) (want.Executes w)) where
  pub link_there : IsThere d parts (part.link w)
  link_there = there d parts (who.Twin w) (want.Executes w) allowed (part.link w) (inl refl)

  -- its link isn't empty
  pub link_has : (l : Slice) → part_at parts (place_of d (part.link w)) ≡ Some (kinds.Link l)
      → (commands : List Numbered) → link_in l ≡ Some commands → None ≡ slice_get commands 0 → ⊥
  link_has l at commands are none =
      let all : List Slice = allowed.asked.fitting.0 in
      let cannot = nothing_linked d parts allowed.number w allowed.asked l at commands are none all
      allowed.asked.fitting.1 allowed.asked.fitting.2 in
      let can = (allowed.ready all allowed.asked.fitting.1 allowed.asked.fitting.2).0 in
      let no : None ≡ Some allowed.act = sym cannot ∙ can in
      absurd (cc)

-- ---- entries

module _ (d : Declared) (parts : List (ℕ × Part)) (e : Entry) where
  -- nothing that its activity may make
  pub not_wanted : (it : Activity) → activity_of d e.actor ≡ Some (activity_in it)
      → IsWanted d (meant meaning_of parts) e.actor (activity_in it) Nothing → (all : List Slice)
      → IsSound d all → Fits all (meant meaning_of parts) → IsLegal d (state_of d all) e → ⊥
  unfolding legal_act
  not_wanted it is nothing all sound fits legal =
      let s : State = state_of d all in
      let none : legal_act d s e.actor ≡ None =
      ap (λ o. option_and_then (want_act d s) (option_and_then (want_of d s) o)) is
      ∙ ap (option_and_then (want_act d s)) (nothing all sound fits).0 in
      let no : None ≡ Some e.act = sym none ∙ legal in
      absurd (cc)

  abbrev pub may_make : (it : Activity) (asks : Want) (act : Act) → IsAsked d parts e.actor it asks
      → MayAct d (meant meaning_of parts) e.actor act → rises_from 0 (places_of parts) ≡ true
      → IsAllowed d parts it asks
  may_make it asks act asked may rises =
      record { number = e.actor; asked = asked; act = act; ready = may; ascending = rises }

  pub same_entry : (own : Entry) (act : Act) → own ≡ entry_by e.actor act → e.act ≡ own.act
      → own ≡ e
  same_entry own act is same = is
      ∙ ap (entry_by e.actor) (ap (λ (x : Entry). x.act) (sym is) ∙ sym same)

-- what suits this want suits whatever the activity wants
module _ (d : Declared) (parts : List (ℕ × Part)) (it : Activity) (asks : Want)
    (allowed : IsAllowed d parts it asks) where
  may_step : MayStep d parts allowed.number it
  may_step = record {
    limits = allowed.asked.limits;
    is = allowed.asked.number;
    fitting = allowed.asked.fitting;
    small = allowed.asked.small;
    act = allowed.act;
    ready = allowed.ready;
    ascending = allowed.ascending;
  }

  pub prepared_by : (made : Work) → IsSuited d parts it asks made
      → IsPrepared d parts allowed.number made
  prepared_by made suits = prepared d parts allowed.number it may_step asks allowed.asked.wanted
      made suits

-- ---- what the input uses

module _ (d : Declared) (parts : List (ℕ × Part)) where
  -- a line that is no event waits for an application's end
  pub waits_suit : (it : InputLine) (made : Work) → None ≡ event_in it → SuitsLine d parts it made
  waits_suit (line.After m) made none = tt
  waits_suit (line.Press at) made none = absurd (cc)
  waits_suit (line.Release at) made none = absurd (cc)
  waits_suit (line.Move at) made none = absurd (cc)
  waits_suit (line.Key key) made none = absurd (cc)

  pub event_suits : (it : InputLine) (event : Event) (made : Delivered) → Some event ≡ event_in it
      → DeliversIn d parts event made → SuitsLine d parts it (work.Event made)
  event_suits (line.Press at) event made is delivers =
      (made, refl, delivers (line.Press at) (sym is))
  event_suits (line.Release at) event made is delivers =
      (made, refl, delivers (line.Release at) (sym is))
  event_suits (line.Move at) event made is delivers = (made, refl, delivers (line.Move at) (sym is))
  event_suits (line.Key key) event made is delivers = (made, refl, delivers (line.Key key) (sym is))
  event_suits (line.After m) event made is delivers = absurd (cc)
