-- A note that a runner makes.
use Rattle.std.proofs.Common.{◌≡◌, [], ◌∷◌, Option, Some, false, inl, inr, refl, sym, ap, ◌∙◌, ⊎_elim}
use Rattle.std.specs.Borrow.{Bor}
use Rattle.be_actor.specs.declared.Place.{Place}
use Rattle.be_asking.specs.Wants.{activity_in, message_of, runner_in, wish_in}
use Rattle.be_asking.specs.declared.activity.Activity.TheVariants as who
use Rattle.be_asking.specs.declared.activity.Runner.{Runner}
use Rattle.be_asking.specs.declared.want.Request.TheVariants as request
use Rattle.be_asking.specs.declared.want.Want.TheVariants as want
use Rattle.be_hall.specs.Hands.{Hand, part_at}
use Rattle.be_machine.specs.Step.{granted}
use Rattle.be_machine.specs.Touched.{own_part}
use Rattle.be_message.specs.Messages.{Message}
use Rattle.be_message.specs.declared.text.Text.{Text}
use Rattle.be_parts.specs.Kept.{Kept}
use Rattle.be_parts.specs.declared.part.Part.{Part}
use Rattle.be_rules.specs.Places.{place_of}
use Rattle.be_rules.specs.Slices.{slice_of}
use Rattle.be_script.specs.Script.{Declared}
use Rattle.be_steps.proofs.Gone.{own_is, own_made, own_means, own_there}
use Rattle.be_steps.proofs.Making.{done, now}
use Rattle.be_steps.proofs.Moved.{grant, own_right}
use Rattle.be_steps.specs.Going.{HasGone, IsPast, own_kind}
use Rattle.be_steps.specs.Steps.{IsAllowed, IsDone}

module _ (d : Declared) (old : Hand Part) (runner : Runner) (text : Bor Text) (allowed : IsAllowed d old.parts (who.Runner runner) (want.Asks runner (request.Note text))) where
  untouched : slice_of (grant d old.parts runner (request.Note text) allowed) (own_part (runner_in runner)) ≡ slice_of (now d old.parts (who.Runner runner) (want.Asks runner (request.Note text)) allowed) (own_part (runner_in runner))
  unfolding granted
  untouched = refl

  pub noted : (place : Place)
      → ((k : Kept) → part_at old.parts (place_of d (own_part (runner_in runner))) ≡ Some (own_kind runner k) → (message : Option Message) → IsPast d runner k.slice false (wish_in message (request.Note text)) place)
      → (new : Hand Part) → HasGone d runner place old new → IsDone d (who.Runner runner) old new
  noted place past new gone =
      let own = own_there d old.parts runner (request.Note text) allowed in
      done d old.parts (who.Runner runner) (want.Asks runner (request.Note text)) allowed old new ((own_part (runner_in runner), own_kind runner gone.1) ∷ [])
      refl (ap (λ (h : Hand Part). h.room) gone.3) (own_made d runner (λ slice. slice) place old new gone) (
        inr (
          own.reachable.there,
          own_right d old.parts runner (request.Note text) allowed gone.0.slice gone.1.slice false place
              (untouched ∙ own_is d old.parts runner (request.Note text) allowed gone.0 gone.2) refl (past gone.0 gone.2 (message_of (now d old.parts (who.Runner runner) (want.Asks runner (request.Note text)) allowed) (activity_in (who.Runner runner)))) gone.4 ∙ sym (own_means runner gone.1),
        ),
        tt,
      )
      (λ x touched. ⊎_elim (λ is. inl is) (λ never. absurd never) touched)
