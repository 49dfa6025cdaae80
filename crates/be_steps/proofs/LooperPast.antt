-- Where a looper is past what it was granted.
use Rattle.std.proofs.Common.{◌≡◌, ℕ, Bool, List, Option, Some, None, refl, sym, ap, ◌∙◌, subst}
use Rattle.std.specs.Borrow.{Bor}
use Rattle.std.specs.Prelude.{option_map, slice_get}
use Rattle.std.specs.Option.{option_map_or}
use Rattle.std.proofs.lemmas.Option.{same_Some}
use Rattle.be_actor.specs.Wishes.{place_after}
use Rattle.be_actor.specs.declared.Instruction.{Instruction}
use Rattle.be_actor.specs.declared.Place.{Place}
use Rattle.be_actor.specs.declared.Wish.{Wish}
use Rattle.be_handler.specs.declared.Route.{Route}
use Rattle.be_looper.specs.Duties.{Hand}
use Rattle.be_machine.specs.Program.{letter_program, looper_gone_on, stage_gone_on, update_program}
use Rattle.be_machine.specs.State.{Stage, in_body, beginning, in_update, ending}
use Rattle.be_message.specs.Messages.{Message}
use Rattle.be_parts.specs.Effects.{looper_with}
use Rattle.be_parts.specs.Loopers.{at_place, hand_of, stage_in}
use Rattle.be_parts.specs.Stages.{stage_at}
use Rattle.be_rules.specs.Slices.{Slice}
use Rattle.be_script.specs.Script.{Declared}
use Rattle.be_script.specs.Windows.{body_program}
use Rattle.be_steps.proofs.Moved.{gone_by, looper_past}

module _ (d : Declared) (w : ℕ) (accepted : Bool) (wish : Wish) (slice : Slice) where
  abbrev IsPastIn : Place → Type 0
  IsPastIn new = looper_with (at_place new) slice ≡ looper_with (looper_gone_on d w accepted wish) slice

  -- at another stage than this
  at_stage_past : (new : Place) (is : Stage) → stage_in slice ≡ Some is → ((hand : Hand Message) → hand_of slice ≡ Some hand → stage_at new is ≡ stage_gone_on d w accepted wish hand is) → IsPastIn new
  at_stage_past new is at each = looper_past d w accepted wish slice new (λ hand stage has stands. subst (λ (s : Stage). stage_at new s ≡ stage_gone_on d w accepted wish hand s) (same_Some is stage (sym at ∙ stands)) (each hand has))

  message_is : (hand : Hand Message) (message : Message) → hand_of slice ≡ Some hand → option_map (λ (h : Hand Message). h.letter.body) (hand_of slice) ≡ Some message → hand.letter.body ≡ message
  message_is hand message has is = same_Some hand.letter.body message (sym (ap (option_map (λ (h : Hand Message). h.letter.body)) has) ∙ is)

  route_is : (hand : Hand Message) (route : Route) → hand_of slice ≡ Some hand → option_map (λ (h : Hand Message). h.route) (hand_of slice) ≡ Some route → hand.route ≡ route
  route_is hand route has is = same_Some hand.route route (sym (ap (option_map (λ (h : Hand Message). h.route)) has) ∙ is)

  pub in_body_past : (old new : Place) (message : Message) (route : Route) (o : Option (Bor Instruction)) → stage_in slice ≡ Some (in_body old) → option_map (λ (h : Hand Message). h.letter.body) (hand_of slice) ≡ Some message → option_map (λ (h : Hand Message). h.route) (hand_of slice) ≡ Some route
      → option_map (λ x. x.now) o ≡ slice_get (body_program d w message.what route) old.step → new ≡ option_map_or (λ x. place_after x.now old accepted wish) o old → IsPastIn new
  in_body_past old new message route o at body goes found is = at_stage_past new (in_body old) at (λ hand has.
      let program : body_program d w message.what route ≡ letter_program d w hand = λ i. body_program d w (sym (message_is hand message has body) i).what (sym (route_is hand route has goes) i) in
      ap in_body (is ∙ gone_by o old accepted wish (letter_program d w hand) (found ∙ ap (λ l. slice_get l old.step) program)))

  pub in_update_past : (views : List ℕ) (old new : Place) (o : Option (Bor Instruction)) → stage_in slice ≡ Some (in_update views old)
      → option_map (λ x. x.now) o ≡ slice_get (update_program d w views) old.step → new ≡ option_map_or (λ x. place_after x.now old accepted wish) o old → IsPastIn new
  in_update_past views old new o at found is = at_stage_past new (in_update views old) at (λ hand has. ap (in_update views) (is ∙ gone_by o old accepted wish (update_program d w views) found))

  -- where there is no instruction it stays where it is
  pub beginning_past : (new : Place) → stage_in slice ≡ Some beginning → IsPastIn new
  beginning_past new at = at_stage_past new beginning at (λ hand has. refl)

  pub ending_past : (new : Place) → stage_in slice ≡ Some ending → IsPastIn new
  ending_past new at = at_stage_past new ending at (λ hand has. refl)

  pub without_past : (new : Place) → hand_of slice ≡ None → IsPastIn new
  without_past new none = looper_past d w accepted wish slice new (λ hand stage has stands. absurd (no_hand hand (sym has ∙ none)))
    where
      no_hand : (hand : Hand Message) → Some hand ≡ None → ⊥
      no_hand hand e = absurd (cc)
