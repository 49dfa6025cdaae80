-- The end of the message in a looper's hand.
use Rattle.std.proofs.Common.{◌≡◌, ℕ, true, ◌∷◌, Option, Some, None, ◌⊎◌, inl, inr, ⊎_elim, refl, sym, ap, ◌∙◌, subst}
use Rattle.std.specs.Prelude.{is_some, option_map, option_and_then}
use Rattle.std.specs.Option.{option_map_or}
use Rattle.std.proofs.lemmas.Option.{same_Some}
use Rattle.be_asking.specs.declared.activity.Activity.TheVariants as who
use Rattle.be_asking.specs.declared.activity.Runner.TheVariants as by
use Rattle.be_asking.specs.declared.want.Want.TheVariants as want
use Rattle.be_handler.specs.declared.Route.{Route}
use Rattle.be_handler.specs.declared.Route.TheVariants.{Skipped, Handler, Unknown}
use Rattle.be_hall.specs.Hands.{Hand, part_at}
use Rattle.be_looper.specs.Duties.{EndTelling, Hand as Handled, end_telling, nobody, no_reply, not_understood, waiter}
use Rattle.be_machine.specs.declared.Act.{Act}
use Rattle.be_machine.specs.Legal.{want_act}
use Rattle.be_machine.specs.Looper.{end_act, ended_hand, freed, told, told_at_end, word_alone}
use Rattle.be_machine.specs.Program.{hand_at}
use Rattle.be_machine.specs.State.{State, free}
use Rattle.be_machine.specs.Step.{met}
use Rattle.be_machine.specs.Touched as part
use Rattle.be_machine.specs.Touched.{IsOf, Touches}
use Rattle.be_message.specs.Messages.{Message}
use Rattle.be_message.specs.Words.{no_reply_word, not_understood_word}
use Rattle.be_parts.specs.Effects.{app_told, looper_with}
use Rattle.be_parts.specs.Kept.{Kept}
use Rattle.be_parts.specs.Loopers.{hand_of}
use Rattle.be_parts.specs.Parts.{hand_with}
use Rattle.be_parts.specs.declared.part.Part.{Part}
use Rattle.be_parts.specs.declared.part.Part.TheVariants as kinds
use Rattle.be_port.specs.declared.Duty.{Duty}
use Rattle.be_port.specs.declared.Duty.TheVariants.{Owed, Done, Free}
use Rattle.be_reply.specs.Cells.{with_reply}
use Rattle.be_rules.specs.Places.{place_of}
use Rattle.be_rules.specs.Slices.{slice_of}
use Rattle.be_rules.specs.Sure.{Seen, maybe, parts_by}
use Rattle.be_script.specs.Script.{Declared}
use Rattle.be_steps.proofs.Making.{granted_now, meets, now, then_is}
use Rattle.be_steps.proofs.Waited.{changed_looper, hand_is, looper_is, told_cell, told_done, waits_is}
use Rattle.be_steps.specs.Ending.{IsEndWord, end_word}
use Rattle.be_steps.specs.Steps.{IsAllowed, IsDone}
use Rattle.be_steps.specs.Waiters.{IsTold, IsWaiter, waiter_of}

-- ---- in the machine

a_hand : (o : Option (Handled Message)) (act : Act) → option_map end_act o ≡ Some act → (hand : Handled Message) × (o ≡ Some hand)
a_hand (Some hand) act e = (hand, refl)
a_hand None act e = absurd (cc)

end_looper : (telling : EndTelling) (t : State) (w : ℕ) → slice_of (told_at_end telling t) (part.looper w) ≡ slice_of t (part.looper w)
end_looper nobody t w = refl
end_looper (no_reply m) t w = refl
end_looper (not_understood m) t w = refl

told_end : (t : State) (word n m : ℕ) → Some n ≡ Some m → slice_of (told (word_alone word) (Some n) t) (part.cell m) ≡ app_told (with_reply (word_alone word)) (slice_of t (part.cell m))
told_end t word n m is = ap (λ k. slice_of (told (word_alone word) (Some k) t) (part.cell m)) (same_Some n m is) ∙ told_cell t (word_alone word) m

end_cell : (t : State) (duty : Duty) (route : Route) (m : ℕ) → waiter duty ≡ Some m → slice_of (told_at_end (end_telling duty route) t) (part.cell m) ≡ app_told (with_reply (word_alone (end_word (Some route)))) (slice_of t (part.cell m))
end_cell t (Owed n) Unknown m is = told_end t not_understood_word n m is
end_cell t (Owed n) Skipped m is = told_end t no_reply_word n m is
end_cell t (Owed n) (Handler target) m is = told_end t no_reply_word n m is
end_cell t Done route m is = absurd (cc)
end_cell t Free route m is = absurd (cc)

module _ (d : Declared) (old : Hand Part) (w : ℕ) (allowed : IsAllowed d old.parts (who.Runner (by.Looper w)) (want.Ends w)) where
  abbrev s : State
  s = now d old.parts (who.Runner (by.Looper w)) (want.Ends w) allowed

  abbrev later : State
  later = then_is d old.parts (who.Runner (by.Looper w)) (want.Ends w) allowed

  pub shape : (x : Seen) → parts_by x (meets d old.parts (who.Runner (by.Looper w)) (want.Ends w) allowed) ≡ part.looper w ∷ maybe part.cell (x.waits w)
  shape x = refl

  got : (hand : Handled Message) × (hand_at s w ≡ Some hand)
  unfolding want_act
  got = a_hand (hand_at s w) allowed.act (granted_now d old.parts (who.Runner (by.Looper w)) (want.Ends w) allowed)

  later_is : later ≡ ended_hand s w got.0
  unfolding met
  later_is = ap (λ o. option_map_or (ended_hand s w) o s) got.1

  looper_later : slice_of later (part.looper w) ≡ looper_with (λ _. free) (slice_of s (part.looper w))
  looper_later =
      ap (λ (t : State). slice_of t (part.looper w)) later_is
      ∙ end_looper (end_telling got.0.duty got.0.route) (freed s w) w
      ∙ changed_looper s w (λ _. free)

  module _ (k : Kept) (at : part_at old.parts (place_of d (part.looper w)) ≡ Some (kinds.Looper k)) where
    its_hand : hand_of k.slice ≡ Some got.0
    its_hand = sym (hand_is d old w (want.Ends w) allowed shape k at) ∙ got.1

    pub has_hand : is_some (hand_of k.slice) ≡ true
    has_hand = ap (λ (o : Option (Handled Message)). is_some o) its_hand

    waits_here : waiter got.0.duty ≡ waiter_of k.slice
    waits_here = ap (option_and_then (λ hand. waiter hand.duty)) (sym got.1) ∙ waits_is d old w (want.Ends w) allowed shape k at

    covers : (x : part.Part) → Touches s later (meets d old.parts (who.Runner (by.Looper w)) (want.Ends w) allowed) x → (x ≡ part.looper w) ⊎ IsOf part.cell (waiter_of k.slice) x
    covers x touched = ⊎_elim (λ own. inl own) (λ other. inr (subst (λ o. IsOf part.cell o x) (waits_is d old w (want.Ends w) allowed shape k at) other)) touched

    module _ (word : ℕ) (word_is : IsEndWord d old.parts w word) where
      told_right : (m : ℕ) → waiter_of k.slice ≡ Some m → slice_of later (part.cell m) ≡ app_told (with_reply (word_alone word)) (slice_of s (part.cell m))
      told_right m is =
          ap (λ (t : State). slice_of t (part.cell m)) later_is
          ∙ end_cell (freed s w) got.0.duty got.0.route m (waits_here ∙ is)
          ∙ ap (λ n. app_told (with_reply (word_alone n)) (slice_of s (part.cell m))) (ap (λ (o : Option (Handled Message)). end_word (option_map (λ hand. hand.route) o)) (sym its_hand) ∙ sym (word_is k at))

      pub end_step : (lp : ℕ) → lp ≡ place_of d (part.looper w) → (is : Kept) → is.slice ≡ looper_with (λ _. free) k.slice → is.log ≡ k.log → (message : Message) → message ≡ word_alone word
          → (waits : Option ℕ) → IsWaiter d old.parts w waits → (new : Hand Part) → IsTold d message waits (hand_with old lp (kinds.Looper is)) new → IsDone d (who.Runner (by.Looper w)) old new
      end_step lp spot is slice log message says waits who_is new tell =
          told_done d old w (want.Ends w) allowed shape k at is log
          (looper_later ∙ ap (looper_with (λ _. free)) (looper_is d old w (want.Ends w) allowed shape k at) ∙ sym slice)
          (word_alone word) told_right covers (hand_with old lp (kinds.Looper is)) (ap (λ n. hand_with old n (kinds.Looper is)) spot) new waits (who_is k at)
          (subst (λ (x : Message). IsTold d x waits (hand_with old lp (kinds.Looper is)) new) says tell)
