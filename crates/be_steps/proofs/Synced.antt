-- A sync that is done, as a step: the link is empty, and stays.
use Rattle.std.proofs.Common.{◌≡◌, ℕ, false, List, [], ◌∷◌, Option, Some, None, inl, inr, ⊎_elim, refl, sym, ap, ◌∙◌, subst}
use Rattle.std.specs.Prelude.{slice_get}
use Rattle.be_actor.specs.declared.Place.{Place}
use Rattle.be_asking.specs.Wants.{activity_in, message_of, runner_in, wish_in}
use Rattle.be_asking.specs.declared.activity.Activity.TheVariants as who
use Rattle.be_asking.specs.declared.activity.Runner.{Runner}
use Rattle.be_asking.specs.declared.want.Request.TheVariants as request
use Rattle.be_asking.specs.declared.want.Want.TheVariants as want
use Rattle.be_hall.proofs.Holding.{held_part}
use Rattle.be_hall.specs.Hands.{Hand, part_at}
use Rattle.be_machine.specs.Program.{window_of}
use Rattle.be_machine.specs.State.{State}
use Rattle.be_machine.specs.Step.{granted, met}
use Rattle.be_machine.specs.Touched as part
use Rattle.be_machine.specs.Touched.{IsOf, own_part}
use Rattle.be_message.specs.Messages.{Message}
use Rattle.be_parts.specs.Kept.{Kept}
use Rattle.be_parts.specs.Parts.{meaning_of}
use Rattle.be_parts.specs.declared.part.Part.{Part}
use Rattle.be_rules.specs.Places.{IsPart, place_of}
use Rattle.be_rules.specs.Slices.{slice_of}
use Rattle.be_rules.specs.Slices as sl
use Rattle.be_rules.specs.Sure.{IsAmong, maybe}
use Rattle.be_script.specs.Script.{Declared}
use Rattle.be_steps.proofs.Flushed.{moved_links}
use Rattle.be_steps.proofs.Gone.{own_is, own_made, own_means, own_there}
use Rattle.be_steps.proofs.Making.{done, now, read, then_is, there}
use Rattle.be_steps.proofs.Moved.{asks, grant, own_right}
use Rattle.be_steps.proofs.OwnWindow.{owned_seen}
use Rattle.be_steps.proofs.PartsKept.{kept}
use Rattle.be_steps.specs.Going.{HasGone, IsPast, own_kind}
use Rattle.be_steps.specs.Made.{AreMade}
use Rattle.be_steps.specs.Steps.{IsAllowed, IsDone}
use Rattle.be_steps.specs.There.{IsThere}

module _ (d : Declared) (old : Hand Part) (runner : Runner) (allowed : IsAllowed d old.parts (who.Runner runner) (want.Asks runner request.SyncDone)) where
  abbrev s : State
  s = now d old.parts (who.Runner runner) (want.Asks runner request.SyncDone) allowed

  abbrev later : State
  later = then_is d old.parts (who.Runner runner) (want.Asks runner request.SyncDone) allowed

  abbrev own : part.Part
  own = own_part (runner_in runner)

  abbrev own_place_there : IsPart d own
  own_place_there = (own_there d old.parts runner request.SyncDone allowed).reachable.there

  untouched : slice_of (grant d old.parts runner request.SyncDone allowed) own ≡ slice_of s own
  unfolding granted
  untouched = refl

  same_links : later.links ≡ s.links
  unfolding met granted
  same_links = moved_links d runner false (asks d old.parts runner request.SyncDone allowed) s

  module _ (place : Place) (past : (k : Kept) → part_at old.parts (place_of d own) ≡ Some (own_kind runner k) → (message : Option Message) → IsPast d runner k.slice false (wish_in message request.SyncDone) place) (new : Hand Part) (gone : HasGone d runner place old new) where
    goes_on : slice_of later own ≡ meaning_of (own_kind runner gone.1)
    goes_on =
        own_right d old.parts runner request.SyncDone allowed gone.0.slice gone.1.slice false place
        (untouched ∙ own_is d old.parts runner request.SyncDone allowed gone.0 gone.2) refl (past gone.0 gone.2 (message_of s (activity_in (who.Runner runner)))) gone.4
        ∙ sym (own_means runner gone.1)

    same_room : new.room ≡ old.room
    same_room = ap (λ (h : Hand Part). h.room) gone.3

    own_changed : AreMade d ((own, own_kind runner gone.1) ∷ []) old.parts new.parts
    own_changed = own_made d runner (λ slice. slice) place old new gone

    by_window : (o : Option ℕ) → window_of s (runner_in runner) ≡ o → IsDone d (who.Runner runner) old new
    by_window (Some w) owns =
        let link_there : IsThere d old.parts (part.link w) =
        there d old.parts (who.Runner runner) (want.Asks runner request.SyncDone) allowed (part.link w) (inr (subst (λ o. IsAmong (part.link w) (maybe part.link o)) (sym (owned_seen s runner ∙ owns)) (inl refl))) in
        let link : (y : Part) × (part_at old.parts (place_of d (part.link w)) ≡ Some y) = held_part meaning_of old.parts (place_of d (part.link w)) link_there.held in
        done d old.parts (who.Runner runner) (want.Asks runner request.SyncDone) allowed old new ((part.link w, link.0) ∷ (own, own_kind runner gone.1) ∷ [])
        refl same_room
        (link.0, link.1, refl, subst (λ (l : List (ℕ × Part)). AreMade d ((own, own_kind runner gone.1) ∷ []) l new.parts) (sym (kept old.parts (place_of d (part.link w)) link.0 link.1)) own_changed) (
          inr (link_there.reachable.there, ap (λ l. sl.link w (slice_get l w)) same_links ∙ read d old.parts (who.Runner runner) (want.Asks runner request.SyncDone) allowed (part.link w) link.0 link_there.reachable.there link.1),
          (inr (own_place_there, goes_on), tt),
        )
        (λ x touched. ⊎_elim (λ mine. inr (inl mine)) (λ other. inl (subst (λ o. IsOf part.link o x) owns other)) touched)
    by_window None owns =
        done d old.parts (who.Runner runner) (want.Asks runner request.SyncDone) allowed old new ((own, own_kind runner gone.1) ∷ [])
        refl same_room own_changed
        (inr (own_place_there, goes_on), tt)
        (λ x touched. ⊎_elim (λ mine. inl mine) (λ other. absurd (subst (λ o. IsOf part.link o x) owns other)) touched)

    pub synced : IsDone d (who.Runner runner) old new
    synced = by_window (window_of s (runner_in runner)) refl
