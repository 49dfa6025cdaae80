-- An entry that was carried out and entered.
use Rattle.std.proofs.Common.{◌≡◌, ℕ, ◌+◌, ◌-◌, true, List, [], ◌∷◌, map, Some, refl, sym, ap}
use Rattle.std.proofs.Common.{subst, ◌∙◌, arith}
use Rattle.be_asking.specs.Wants.{activity_in}
use Rattle.be_asking.specs.declared.activity.Activity.{Activity}
use Rattle.be_hall.proofs.Holding.{fit_after}
use Rattle.be_hall.specs.Answers.{HasSpare}
use Rattle.be_hall.specs.Hands.{Hand, meant, places_of, rises_from}
use Rattle.be_hall.specs.Logs.{appended}
use Rattle.be_hall.specs.Machine.{Fits, HeldFit}
use Rattle.be_machine.specs.Activities.{activity_of}
use Rattle.be_machine.specs.Step.{step}
use Rattle.be_machine.specs.declared.Entry.{Entry}
use Rattle.be_noting.specs.Noting.{noted_in}
use Rattle.be_parts.specs.Parts.{meaning_of, spare_of}
use Rattle.be_parts.specs.declared.part.Part.{Part}
use Rattle.be_rules.proofs.Known.{held_fits}
use Rattle.be_rules.proofs.Lawfully.{world_lawful}
use Rattle.be_rules.specs.Rules.{IsNext, IsSound, SliceFits, kept_at}
use Rattle.be_rules.specs.Slices.{Slice, slices, state_of}
use Rattle.be_script.specs.Script.{Declared}
use Rattle.be_steps.specs.Steps.{IsDone}
use Rattle.be_world.specs.Entering.{HasEntered, TakesEntry}
use Rattle.be_world.specs.Performing.{HasPerformed, MayPerform}
use Rattle.be_world.specs.Suits.{MayStep}
use Rattle.be_world.specs.declared.work.Work.{Work}
use Rattle.be_world.proofs.Keeping.{entered_logs, entered_means, entered_notes, entered_places}
use Rattle.be_world.proofs.Keeping.{takes_entry}

same_places : (parts : List (ℕ × Part)) → map (λ x. x.0) (meant meaning_of parts) ≡ places_of parts
same_places [] = refl
same_places (x ∷ xs) = ap (λ l. x.0 ∷ l) (same_places xs)

module _ (d : Declared) (e : Entry) (made : Work) (n : ℕ) (old : Hand Part)
    (may : MayPerform d old.parts e made n) (who : Activity)
    (number : activity_of d e.actor ≡ Some (activity_in who))
    (rises : rises_from 0 (places_of old.parts) ≡ true) where
  pub may_step : MayStep d old.parts e.actor who
  may_step = record {
    limits = may.limits;
    is = number;
    fitting = may.fitting;
    small = fit_after meaning_of SliceFits (n - 1) 4611686018427387904 old.parts
        (λ m f. (world_lawful d).fits_more (n - 1) 4611686018427387904 m (omega arith) f) may.fits;
    act = e.act;
    ready = may.ready;
    ascending = rises;
  }

  module _ (place : ℕ) (kept : place ≡ kept_at d (Some (activity_in who))) (mid : Hand Part)
      (done : IsDone d who old mid) where
    rises_still : rises_from 0 (places_of mid.parts) ≡ true
    rises_still = ap (rises_from 0) done.places ∙ rises

    kept_here : place ≡ kept_at d (activity_of d e.actor)
    kept_here = kept ∙ ap (kept_at d) (sym number)

    pub room_is : TakesEntry mid.parts place
    room_is =
        takes_entry mid.parts place rises_still
        (subst (λ s. HasSpare place s) (sym done.spare)
        (subst (λ (p : ℕ). HasSpare p (meant spare_of old.parts)) (sym kept_here) may.spare))

    module _ (new : Hand Part) (room : new.room ≡ mid.room)
        (note : List ℕ) (entered : HasEntered place n e note mid.parts new.parts) where
      after : (all : List Slice) → IsSound d all → Fits all (meant meaning_of old.parts)
          → Fits (slices d (step d (state_of d all) e)) (meant meaning_of new.parts)
      after all sound fits =
          subst (λ h. Fits (slices d (step d (state_of d all) e)) h)
          (sym (entered_means place n e note mid.parts new.parts entered))
          (done.after e number all sound fits)

      places : places_of new.parts ≡ places_of old.parts
      places = entered_places place n e note mid.parts new.parts entered ∙ done.places

      next : IsNext d (meant meaning_of old.parts) e (meant meaning_of new.parts)
      next = (same_places new.parts ∙ places ∙ sym (same_places old.parts), after)

      fits : HeldFit SliceFits n (meant meaning_of new.parts)
      fits =
          let again : n - 1 + 1 ≡ n = (let pos = may.number.0 in omega arith) in
          subst (λ (k : ℕ). HeldFit SliceFits k (meant meaning_of new.parts)) again
          (held_fits d (n - 1) e (meant meaning_of old.parts) (meant meaning_of new.parts)
          may.fitting.0 may.fitting.1 may.fitting.2 may.ready next may.fits)

      pub performed : HasPerformed d e note n old new
      performed = record {
        room = room ∙ done.room;
        places = places;
        after = after;
        fits = fits;
        logs =
            entered_logs place n e note mid.parts new.parts entered rises_still
            ∙ (λ i. appended (kept_here i) (n, e) (done.logs i));
        notes =
            entered_notes place n e note mid.parts new.parts entered rises_still
            ∙ (λ i. noted_in (kept_here i) note (done.notes i));
      }
