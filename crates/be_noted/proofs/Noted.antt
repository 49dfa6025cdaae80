-- An entry that is made ready with what is noted of it, and made.
use Rattle.std.proofs.Common.{◌≡◌, ℕ, true, List, Some, None, refl, sym, ap, ◌∙◌, subst}
use Rattle.be_asking.specs.Wants.{activity_in}
use Rattle.be_asking.specs.declared.activity.Activity.{Activity}
use Rattle.be_hall.specs.Hands.{Hand, meant, places_of, rises_from}
use Rattle.be_hall.specs.Machine.{Fits, IsAskable}
use Rattle.be_hall.specs.declared.parts.Verdict.{Verdict}
use Rattle.be_hall.specs.declared.parts.Verdict.TheVariants as verdict
use Rattle.be_machine.specs.Activities.{activity_of}
use Rattle.be_machine.specs.Step.{step}
use Rattle.be_machine.specs.declared.Entry.{Entry}
use Rattle.be_noting.proofs.InHand.{after_noted}
use Rattle.be_noting.specs.Noting.{Noted, meanings, noted_in, seen}
use Rattle.be_parts.specs.Parts.{meaning_of}
use Rattle.be_parts.specs.declared.part.Part.{Part}
use Rattle.be_rules.specs.Rules.{IsSound, kept_at, world_machine}
use Rattle.be_rules.specs.Slices.{Slice, slices, state_of}
use Rattle.be_script.specs.Script.{Declared}
use Rattle.be_world.proofs.Keeping.{nobody_acts}
use Rattle.be_world.specs.Performing.{HasPerformed}
use Rattle.be_world.specs.Preparing.{IsVerdict, entry_in, work_in}
use Rattle.be_world.specs.Suits.{IsPrepared, MayStep}
use Rattle.be_world.specs.declared.preparing.ReadyEntry.{ReadyEntry}
use Rattle.be_jotted.specs.Jotting.{noted_machine, told_of}
use Rattle.be_noted.proofs.Both.{fits_alone, fits_back, held_alone, notes_are, seen_is}
use Rattle.be_noted.specs.Noted.{IsNoted, IsNotedBy}
use Rattle.be_noted.specs.Noting.{IsNotedVerdict, noted_of}

-- ---- made ready

noted_by : (d : Declared) (parts : List (ℕ × Part)) (e : Entry) (who : Activity) (text : List ℕ)
    → activity_of d e.actor ≡ Some (activity_in who) → IsNoted d parts who text
    → IsNotedBy d parts e.actor text
noted_by d parts e who text number noted other same =
    noted other (ap (activity_of d) same ∙ number)

module _ (d : Declared) (parts : List (ℕ × Part)) (e : Entry)
    (askable : IsAskable (world_machine d) (meant meaning_of parts)) where
  pub not_noted : (v : Verdict ReadyEntry) → v ≡ verdict.NotLegal → IsVerdict d parts e v
      → IsNotedVerdict d parts e verdict.NotLegal
  not_noted v is answer =
      let refused = subst (λ (x : Verdict ReadyEntry). IsVerdict d parts e x) is answer in
      λ all sound fits. refused (meanings all) sound (fits_alone d parts all fits)

  pub needs_noted : (v : Verdict ReadyEntry) (p : ℕ) → v ≡ verdict.Needs p → IsVerdict d parts e v
      → IsNotedVerdict d parts e (verdict.Needs p)
  needs_noted v p is answer =
      let needs = subst (λ (x : Verdict ReadyEntry). IsVerdict d parts e x) is answer in (
        λ held. needs.0 (held_alone d parts p held),
        λ all sound fits. needs.1 (meanings all) sound (fits_alone d parts all fits),
      )

  module _ (v : Verdict ReadyEntry) (r : ReadyEntry) (is : v ≡ verdict.Ready r)
      (answer : IsVerdict d parts e v) where
    abbrev pub ready : IsVerdict d parts e (verdict.Ready r)
    ready = subst (λ (x : Verdict ReadyEntry). IsVerdict d parts e x) is answer

    pub somebody : activity_of d e.actor ≡ None → ⊥
    somebody none =
        let some = askable.0 in
        nobody_acts d (state_of d some.0) e none (ready.2 some.0 some.1 some.2).0

    pub may : (who : Activity) → activity_of d e.actor ≡ Some (activity_in who)
        → rises_from 0 (places_of parts) ≡ true → MayStep d parts e.actor who
    may who number rises = record {
      limits = askable.0.1.limits;
      is = number;
      fitting = askable.0;
      small = askable.1;
      act = e.act;
      ready = ready.2;
      ascending = rises;
    }

    pub prepared : IsPrepared d parts e.actor (work_in r)
    prepared = subst (λ (x : Entry). IsPrepared d parts x.actor (work_in r)) ready.0 ready.4

    -- what is noted of it, by a script that declares this
    pub note_is : (other : Declared) → other ≡ d → (who : Activity)
        → activity_of other e.actor ≡ Some (activity_in who) → (text : List ℕ)
        → IsNoted other parts who text → IsNotedBy d parts (entry_in r).actor text
    note_is other same who number text noted =
        subst (λ (x : Declared). IsNotedBy x parts (entry_in r).actor text) same
        (subst (λ (x : Entry). IsNotedBy other parts x.actor text) (sym ready.0)
        (noted_by other parts e who text number noted))

-- ---- made

module _ (d : Declared) (e : Entry) (text : List ℕ) (n : ℕ) (old new : Hand Part)
    (done : HasPerformed d e text n old new) where
  seen_after : (all : List Slice) → IsSound d all → Fits all (seen (meant noted_of old.parts))
      → Fits (slices d (step d (state_of d all) e)) (seen (meant noted_of new.parts))
  seen_after all sound fits =
      subst (Fits (slices d (step d (state_of d all) e))) (sym (seen_is new.parts))
      (done.after all sound (fits_back d old.parts all fits))

  pub after_is : IsNotedBy d old.parts e.actor text → (all : List (Noted Slice ℕ))
      → (noted_machine d).sound all → Fits all (meant noted_of old.parts)
      → Fits ((noted_machine d).after all e) (meant noted_of new.parts)
  after_is noted =
      after_noted (world_machine d) (told_of d) (meant noted_of old.parts) e text
      (meant noted_of new.parts) seen_after
      (notes_are new.parts ∙ done.notes
      ∙ ap (noted_in (kept_at d (activity_of d e.actor)) text) (sym (notes_are old.parts)))
      (λ all sound fits. sym (noted e refl all sound (fits_back d old.parts all fits)))
