-- A reply to the message in a looper's hand.
use Rattle.std.proofs.Common.{◌≡◌, ℕ, ◌∷◌, Option, Some, false, inl, inr, ⊎_elim, refl, sym, ap, ◌∙◌, subst, ◌⊎◌}
use Rattle.std.specs.Borrow.{Bor}
use Rattle.std.specs.Prelude.{option_and_then}
use Rattle.be_actor.specs.Drafts.{DraftWords, filled}
use Rattle.be_actor.specs.declared.Place.{Place}
use Rattle.be_asking.specs.Wants.{message_of, wish_in}
use Rattle.be_asking.specs.declared.activity.Activity.TheVariants as who
use Rattle.be_asking.specs.declared.activity.Runner.TheVariants as by
use Rattle.be_asking.specs.declared.want.Request.TheVariants as request
use Rattle.be_asking.specs.declared.want.Want.{Want}
use Rattle.be_asking.specs.declared.want.Want.TheVariants as want
use Rattle.be_hall.specs.Hands.{Hand, part_at}
use Rattle.be_looper.specs.Duties.{duty_after_reply, waiter}
use Rattle.be_machine.specs.Activities as machine
use Rattle.be_machine.specs.Looper.{told, with_duty_by}
use Rattle.be_machine.specs.Program.{hand_at, moved_on}
use Rattle.be_machine.specs.State.{State}
use Rattle.be_machine.specs.Step.{granted, met}
use Rattle.be_machine.specs.Touched as part
use Rattle.be_machine.specs.Touched.{IsOf, Touches}
use Rattle.be_message.specs.Messages.{Message}
use Rattle.be_parts.specs.Effects.{app_told, looper_with}
use Rattle.be_parts.specs.Kept.{Kept}
use Rattle.be_parts.specs.Loopers.{at_place}
use Rattle.be_parts.specs.Parts.{hand_with}
use Rattle.be_parts.specs.declared.part.Part.{Part}
use Rattle.be_parts.specs.declared.part.Part.TheVariants as kinds
use Rattle.be_reply.specs.Cells.{with_reply}
use Rattle.be_rules.proofs.Lawfully.{back}
use Rattle.be_rules.specs.Places.{place_of}
use Rattle.be_rules.specs.Slices.{slice_of}
use Rattle.be_rules.specs.Sure.{Seen, maybe, parts_by}
use Rattle.be_script.specs.Script.{Declared}
use Rattle.be_steps.proofs.Making.{all, fits_now, meets, now, so, then_is}
use Rattle.be_steps.proofs.Moved.{asks, grant, own_right, past_handed}
use Rattle.be_steps.proofs.Waited.{changed_looper, looper_is, told_cell, told_done, told_looper, waits_is}
use Rattle.be_steps.specs.Going.{IsPast}
use Rattle.be_steps.specs.Steps.{IsAllowed, IsDone}
use Rattle.be_steps.specs.Waiters.{IsReply, IsTold, IsWaiter, waiter_of}

module _ (d : Declared) (old : Hand Part) (w : ℕ) (draft : Bor DraftWords) (allowed : IsAllowed d old.parts (who.Runner (by.Looper w)) (want.Asks (by.Looper w) (request.Reply draft))) where
  abbrev wanted : Want
  wanted = want.Asks (by.Looper w) (request.Reply draft)

  abbrev s : State
  s = now d old.parts (who.Runner (by.Looper w)) wanted allowed

  abbrev later : State
  later = then_is d old.parts (who.Runner (by.Looper w)) wanted allowed

  -- what the draft says beside the message in hand
  abbrev said : Message
  said = filled draft.now (message_of s (machine.runner (machine.looper w)))

  abbrev waits : Option ℕ
  waits = option_and_then (λ hand. waiter hand.duty) (hand_at s w)

  pub shape : (x : Seen) → parts_by x (meets d old.parts (who.Runner (by.Looper w)) wanted allowed) ≡ part.looper w ∷ maybe part.cell (x.waits w)
  shape x = refl

  grant_looper : slice_of (grant d old.parts (by.Looper w) (request.Reply draft) allowed) (part.looper w) ≡ looper_with (with_duty_by duty_after_reply) (slice_of s (part.looper w))
  unfolding granted
  grant_looper = changed_looper (told said waits s) w (with_duty_by duty_after_reply) ∙ ap (looper_with (with_duty_by duty_after_reply)) (told_looper s w said waits)

  later_cell : (m : ℕ) → slice_of later (part.cell m) ≡ slice_of (told said waits s) (part.cell m)
  unfolding met granted moved_on
  later_cell m = refl

  module _ (k : Kept) (at : part_at old.parts (place_of d (part.looper w)) ≡ Some (kinds.Looper k)) where
    cell_right : (m : ℕ) → waiter_of k.slice ≡ Some m → slice_of later (part.cell m) ≡ app_told (with_reply said) (slice_of s (part.cell m))
    cell_right m is = later_cell m ∙ ap (λ o. slice_of (told said o s) (part.cell m)) (waits_is d old w wanted allowed shape k at ∙ is) ∙ told_cell s said m

    covers : (x : part.Part) → Touches s later (meets d old.parts (who.Runner (by.Looper w)) wanted allowed) x → (x ≡ part.looper w) ⊎ IsOf part.cell (waiter_of k.slice) x
    covers x touched = ⊎_elim (λ own. inl own) (λ other. inr (subst (λ o. IsOf part.cell o x) (waits_is d old w wanted allowed shape k at) other)) touched

    module _ (message : Message) (replies : IsReply d old.parts w draft.now message) where
      message_is : said ≡ message
      message_is =
          sym (subst (λ (t : State). message ≡ filled draft.now (message_of t (machine.runner (machine.looper w))))
          (back d (all d old.parts (who.Runner (by.Looper w)) wanted allowed) (so d old.parts (who.Runner (by.Looper w)) wanted allowed))
          (replies (all d old.parts (who.Runner (by.Looper w)) wanted allowed) (so d old.parts (who.Runner (by.Looper w)) wanted allowed) (fits_now d old.parts (who.Runner (by.Looper w)) wanted allowed)))

      told_right : (m : ℕ) → waiter_of k.slice ≡ Some m → slice_of later (part.cell m) ≡ app_told (with_reply message) (slice_of s (part.cell m))
      told_right m is = cell_right m is ∙ ap (λ (x : Message). app_told (with_reply x) (slice_of s (part.cell m))) message_is

      pub reply_step : (lp : ℕ) → lp ≡ place_of d (part.looper w) → (is : Kept) (place : Place)
          → ((now : Option Message) → IsPast d (by.Looper w) k.slice false (wish_in now (request.Reply draft)) place)
          → is.slice ≡ looper_with (at_place place) (looper_with (with_duty_by duty_after_reply) k.slice) → is.log ≡ k.log
          → (waits : Option ℕ) → IsWaiter d old.parts w waits → (new : Hand Part) → IsTold d message waits (hand_with old lp (kinds.Looper is)) new → IsDone d (who.Runner (by.Looper w)) old new
      reply_step lp spot is place past slice log waiting who_is new tell =
          told_done d old w wanted allowed shape k at is log
          (own_right d old.parts (by.Looper w) (request.Reply draft) allowed (looper_with (with_duty_by duty_after_reply) k.slice) is.slice false place
          (grant_looper ∙ ap (looper_with (with_duty_by duty_after_reply)) (looper_is d old w wanted allowed shape k at)) refl
          (past_handed d w duty_after_reply false (asks d old.parts (by.Looper w) (request.Reply draft) allowed) k.slice place (past (message_of s (machine.runner (machine.looper w)))))
          slice)
          message told_right covers (hand_with old lp (kinds.Looper is)) (ap (λ n. hand_with old n (kinds.Looper is)) spot) new waiting (who_is k at) tell
