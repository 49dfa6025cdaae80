-- An activity that may make its entry: what it wants, and that what was made suits it.
use Rattle.std.proofs.Common.{◌≡◌, ℕ, List, Some, None, refl, sym, ap, subst, ◌∙◌}
use Rattle.std.specs.Prelude.{option_and_then}
use Rattle.std.proofs.lemmas.Option.{same_Some}
use Rattle.be_asking.specs.Wants.{IsWanted, activity_in, message_of, want_in}
use Rattle.be_asking.specs.declared.activity.Activity.{Activity}
use Rattle.be_asking.specs.declared.want.Want.{Want}
use Rattle.be_asking.specs.declared.want.Wanted.TheVariants.{Wants, Needs, Nothing}
use Rattle.be_asking.proofs.Makers.{asked_by, made_by}
use Rattle.be_hall.specs.Hands.{Hand, meant}
use Rattle.be_machine.specs.Activities as machine
use Rattle.be_machine.specs.Activities.{activity_of}
use Rattle.be_machine.specs.declared.Entry.{Entry}
use Rattle.be_machine.specs.Legal.{legal_act, want_act}
use Rattle.be_machine.specs.State.{State}
use Rattle.be_machine.specs.Wants as wants
use Rattle.be_machine.specs.Wants.{want_of}
use Rattle.be_parts.specs.Parts.{meaning_of}
use Rattle.be_parts.specs.declared.part.Part.{Part}
use Rattle.be_rules.specs.Slices.{Slice, state_of}
use Rattle.be_script.specs.Script.{Declared}
use Rattle.be_steps.specs.Steps.{IsAllowed, IsDone}
use Rattle.be_world.specs.Suits.{IsPrepared, IsSuited, MayStep, Suits}
use Rattle.be_world.specs.Turns.{entry_by}
use Rattle.be_world.specs.declared.work.Work.{Work}

module _ (d : Declared) (parts : List (ℕ × Part)) (number : ℕ) (it : Activity)
    (may : MayStep d parts number it) where
  abbrev held : List (ℕ × Slice)
  held = meant meaning_of parts

  abbrev mine : Entry
  mine = entry_by number may.act

  -- all that it touches is in hand
  pub needs_none : (p : ℕ) → IsWanted d held number (activity_in it) (Needs p) → ⊥
  needs_none p need =
      let all : List Slice = may.fitting.0 in
      need.0 ((may.ready all may.fitting.1 may.fitting.2).1 p
      (need.1 mine refl all may.fitting.1 may.fitting.2))

  -- and it wants something
  pub not_ended : IsWanted d held number (activity_in it) Nothing → ⊥
  unfolding legal_act
  not_ended nothing =
      let all : List Slice = may.fitting.0 in
      let s : State = state_of d all in
      let none : legal_act d s number ≡ None =
      ap (λ o. option_and_then (want_act d s) (option_and_then (want_of d s) o)) may.is
      ∙ ap (option_and_then (want_act d s)) (nothing all may.fitting.1 may.fitting.2).0 in
      let legal : legal_act d s number ≡ Some may.act =
      (may.ready all may.fitting.1 may.fitting.2).0 in
      let no : None ≡ Some may.act = sym none ∙ legal in
      absurd (cc)

  module _ (asks : Want) (wanted : IsWanted d held number (activity_in it) (Wants asks)) where
    pub allowed : IsAllowed d parts it asks
    allowed = record {
      number = number;
      asked = record {
        limits = may.limits;
        number = may.is;
        fitting = may.fitting;
        small =
            may.small;
        wanted = wanted;
      };
      act = may.act;
      ready = may.ready;
      ascending = may.ascending;
    }

    pub suited : (made : Work) → IsPrepared d parts number made → IsSuited d parts it asks made
    suited made prepared all sound fits =
        prepared all sound fits (activity_in it) may.is
        (want_in (message_of (state_of d all) (activity_in it)) asks) (wanted all sound fits).0

    pub prepared : (made : Work) → IsSuited d parts it asks made → IsPrepared d parts number made
    prepared made suits all sound fits other is wish wants_it =
        let same : activity_in it ≡ other = same_Some (activity_in it) other (sym may.is ∙ is) in
        let wishes : want_in (message_of (state_of d all) (activity_in it)) asks ≡ wish =
        same_Some (want_in (message_of (state_of d all) (activity_in it)) asks) wish
        (sym (wanted all sound fits).0 ∙ ap (want_of d (state_of d all)) same ∙ wants_it) in
        subst (λ (x : wants.Want). Suits d parts (state_of d all) x made) wishes
        (suits all sound fits)

-- ---- by the kind of what is wanted

module _ (d : Declared) (parts : List (ℕ × Part)) (it : Activity) (asks : Want)
    (allowed_is : IsAllowed d parts it asks) (other : Want) (is : asks ≡ other) where
  pub allowed_by : IsAllowed d parts (made_by other) other
  allowed_by = record {
    number = allowed_is.number;
    asked = asked_by d parts allowed_is.number it asks allowed_is.asked other is;
    act = allowed_is.act;
    ready = allowed_is.ready;
    ascending = allowed_is.ascending;
  }

  pub same_maker : activity_in it ≡ activity_in (made_by other)
  unfolding allowed_by
  same_maker = same_Some (activity_in it) (activity_in (made_by other))
      (sym allowed_is.asked.number ∙ allowed_by.asked.number)

  pub suited_by : (made : Work) → IsSuited d parts it asks made
      → IsSuited d parts (made_by other) other made
  suited_by made suits all sound fits =
      subst (λ (x : machine.Activity). Suits d parts (state_of d all)
      (want_in (message_of (state_of d all) x) other) made) same_maker
      (subst (λ (x : Want). Suits d parts (state_of d all)
      (want_in (message_of (state_of d all) (activity_in it)) x) made) is
      (suits all sound fits))

  -- and back
  pub suited_back : (made : Work) → IsSuited d parts (made_by other) other made
      → IsSuited d parts it asks made
  suited_back made suits all sound fits =
      subst (λ (x : Want). Suits d parts (state_of d all)
      (want_in (message_of (state_of d all) (activity_in it)) x) made) (sym is)
      (subst (λ (x : machine.Activity). Suits d parts (state_of d all)
      (want_in (message_of (state_of d all) x) other) made) (sym same_maker)
      (suits all sound fits))

  pub done_by : (old new : Hand Part) → IsDone d (made_by other) old new → IsDone d it old new
  done_by old new done = record {
    room = done.room;
    places = done.places;
    after = λ e number all sound fits. done.after e
        (number ∙ ap (λ (x : machine.Activity). Some x) same_maker) all sound fits;
    logs = done.logs;
    spare = done.spare;
    notes = done.notes;
  }
