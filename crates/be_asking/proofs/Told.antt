-- What a looper with a letter in hand wants, by what its part tells.
use Rattle.std.proofs.Common.{◌≡◌, ℕ, List, Option, Some, None, sym, ap, ◌∙◌}
use Rattle.std.specs.Prelude.{slice_get, option_map, option_and_then}
use Rattle.std.proofs.lemmas.Option.{same_Some}
use Rattle.be_actor.specs.declared.Instruction.{Instruction}
use Rattle.be_actor.specs.declared.Place.{Place}
use Rattle.be_actor.specs.Wishes.{wish_at, wish_of}
use Rattle.be_asking.specs.declared.want.Want.{Want}
use Rattle.be_asking.specs.Loopers.{IsTold, draw_end_by, end_by, stage_by, steps_by}
use Rattle.be_asking.specs.Wants.{want_in}
use Rattle.be_handler.specs.declared.Route.{Route}
use Rattle.be_looper.specs.Duties.{Hand}
use Rattle.be_machine.specs.Activities as by
use Rattle.be_machine.specs.Program.{hand_in, update_program}
use Rattle.be_machine.specs.State.{Looper, free, locked, handling, in_body, in_update}
use Rattle.be_machine.specs.Wants.{asks_or}
use Rattle.be_machine.specs.Wants as machine
use Rattle.be_message.specs.Messages.{Message}
use Rattle.be_parts.specs.Loopers.{stage_of}
use Rattle.be_script.specs.Script.{Declared}
use Rattle.be_script.specs.Windows.{body_program}

module _ (d : Declared) (w n : ℕ) where
  -- at a place of these instructions
  at_step : (hand : Hand Message) (program : List Instruction) (place : Place) (step : Option Instruction) (r last : Want) (end : machine.Want) → step ≡ slice_get program place.step → ((now : Option Message) → want_in now r ≡ asks_or (by.looper w) (option_map (wish_at place.part now n) step) (want_in now last)) → ((now : Option Message) → want_in now last ≡ end) → want_in (Some hand.letter.body) r ≡ steps_by w n hand program place end
  unfolding wish_of
  at_step hand program place step r last end is told ends =
      told (Some hand.letter.body)
      ∙ ap (λ o. asks_or (by.looper w) (option_map (wish_at place.part (Some hand.letter.body) n) o) (want_in (Some hand.letter.body) last)) is
      ∙ ap (asks_or (by.looper w) (option_map (wish_at place.part (Some hand.letter.body) n) (slice_get program place.step))) (ends (Some hand.letter.body))

  pub body_told : (o : Option Looper) (place : Place) (message : Message) (route : Route) (step : Option Instruction) (r last : Want) → option_and_then stage_of o ≡ Some (in_body place) → option_map (λ (hand : Hand Message). hand.letter.body) (option_and_then hand_in o) ≡ Some message → option_map (λ (hand : Hand Message). hand.route) (option_and_then hand_in o) ≡ Some route → step ≡ slice_get (body_program d w message.what route) place.step → ((now : Option Message) → want_in now r ≡ asks_or (by.looper w) (option_map (wish_at place.part now n) step) (want_in now last)) → ((now : Option Message) → want_in now last ≡ end_by w n) → IsTold d w o n r
  body_told (Some (handling hand stage)) place message route step r last at body to is told ends =
      let same : message ≡ hand.letter.body = sym (same_Some hand.letter.body message body) in
      let there : route ≡ hand.route = sym (same_Some hand.route route to) in
      at_step hand (body_program d w hand.letter.body.what hand.route) place step r last (end_by w n) (is ∙ (λ i. slice_get (body_program d w (same i).what (there i)) place.step)) told ends
      ∙ ap (stage_by d w n hand) (sym (same_Some stage (in_body place) at))
  body_told (Some (locked m)) place message route step r last at body to is told ends = absurd (cc)
  body_told (Some free) place message route step r last at body to is told ends = absurd (cc)
  body_told None place message route step r last at body to is told ends = absurd (cc)

  pub update_told : (o : Option Looper) (views : List ℕ) (place : Place) (step : Option Instruction) (r last : Want) → option_and_then stage_of o ≡ Some (in_update views place) → step ≡ slice_get (update_program d w views) place.step → ((now : Option Message) → want_in now r ≡ asks_or (by.looper w) (option_map (wish_at place.part now n) step) (want_in now last)) → ((now : Option Message) → want_in now last ≡ draw_end_by w n) → IsTold d w o n r
  update_told (Some (handling hand stage)) views place step r last at is told ends =
      at_step hand (update_program d w views) place step r last (draw_end_by w n) is told ends
      ∙ ap (stage_by d w n hand) (sym (same_Some stage (in_update views place) at))
  update_told (Some (locked m)) views place step r last at is told ends = absurd (cc)
  update_told (Some free) views place step r last at is told ends = absurd (cc)
  update_told None views place step r last at is told ends = absurd (cc)
