-- A looper that wants to reply to the message in its hand.
use Rattle.std.proofs.Common.{◌≡◌, ℕ, List, Option, Some, None, refl, sym, ap, ◌∙◌}
use Rattle.std.specs.Borrow.{Bor}
use Rattle.std.specs.Prelude.{option_map}
use Rattle.std.proofs.lemmas.Option.{same_Some}
use Rattle.be_actor.specs.Drafts.{DraftWords}
use Rattle.be_hall.specs.Hands.{meant, part_at}
use Rattle.be_looper.specs.Duties.{Hand, reply_answer, waiter}
use Rattle.be_message.specs.Messages.{Message}
use Rattle.be_port.specs.declared.Duty.{Duty}
use Rattle.be_port.specs.declared.Duty.TheVariants.{Owed, Done, Free}
use Rattle.be_script.specs.Script.{Declared}
use Rattle.be_machine.specs.declared.Act.TheVariants as act
use Rattle.be_machine.specs.declared.Replied.TheVariants as replied
use Rattle.be_machine.specs.Legal.{want_act, wish_act}
use Rattle.be_machine.specs.Looper.{answer_of}
use Rattle.be_machine.specs.State.{State}
use Rattle.be_machine.specs.Touched as part
use Rattle.be_machine.specs.Wants as wants
use Rattle.be_parts.specs.Kept.{Kept}
use Rattle.be_parts.specs.Loopers.{duty_in, hand_of}
use Rattle.be_parts.specs.Parts.{meaning_of}
use Rattle.be_parts.specs.declared.part.Part as parts
use Rattle.be_parts.specs.declared.part.Part.TheVariants as kinds
use Rattle.be_rules.specs.Found.{CannotAct}
use Rattle.be_rules.specs.Places.{place_of}
use Rattle.be_asking.specs.Deeds.{IsAsked, MayAct}
use Rattle.be_asking.specs.declared.activity.Activity.TheVariants as who
use Rattle.be_asking.specs.declared.activity.Runner.TheVariants as by
use Rattle.be_asking.specs.declared.want.Request.TheVariants as request
use Rattle.be_asking.specs.declared.want.Want.TheVariants as want
use Rattle.be_asking.proofs.Asked.{s, wish}
use Rattle.be_asking.proofs.WhoWaits.{acts_alone, acts_told, hand_is, no_hand}

answered_by : (o : Option (Hand Message)) (duty : Duty) → option_map (λ hand. hand.duty) o ≡ Some duty → option_map (λ (hand : Hand Message). answer_of (reply_answer hand.duty)) o ≡ Some (answer_of (reply_answer duty))
answered_by (Some hand) duty owed = ap (λ x. Some (answer_of (reply_answer x))) (same_Some hand.duty duty owed)
answered_by None duty owed = absurd (cc)

not_answered : (o : Option (Hand Message)) → option_map (λ hand. hand.duty) o ≡ None → option_map (λ (hand : Hand Message). answer_of (reply_answer hand.duty)) o ≡ None
not_answered (Some hand) none = absurd (cc)
not_answered None none = refl

module _ (d : Declared) (inhand : List (ℕ × parts.Part)) (a w : ℕ) (draft : Bor DraftWords) (asked : IsAsked d inhand a (who.Runner (by.Looper w)) (want.Asks (by.Looper w) (request.Reply draft)))
    (l : Kept) (at : part_at inhand (place_of d (part.looper w)) ≡ Some (kinds.Looper l)) where
  abbrev now : State
  now = s d inhand a _ _ asked

  abbrev replies : wants.Want
  replies = wish d inhand a _ _ asked

  acts : want_act d now replies ≡ option_map (λ (hand : Hand Message). answer_of (reply_answer hand.duty)) (hand_of l.slice)
  unfolding want_act wish_act
  acts = ap (option_map (λ (hand : Hand Message). answer_of (reply_answer hand.duty))) (hand_is d inhand a w _ asked (λ x. refl) l at)

  pub reply_waits : None ≡ duty_in l.slice → CannotAct d (meant meaning_of inhand) a
  reply_waits none = no_hand d inhand a w _ asked (λ x. refl) l at (λ stop. absurd (cc)) (sym none) (acts ∙ not_answered (hand_of l.slice) (sym none))

  module _ (duty : Duty) (owed : Some duty ≡ duty_in l.slice) where
    answers : (x : Duty) → duty ≡ x → want_act d now replies ≡ Some (answer_of (reply_answer x))
    answers x is = acts ∙ answered_by (hand_of l.slice) duty (sym owed) ∙ ap (λ y. Some (answer_of (reply_answer y))) is

    pub second_reply : duty ≡ Done → MayAct d (meant meaning_of inhand) a (act.Reply replied.Duplicate)
    second_reply is = acts_alone d inhand a w _ asked (λ x. refl) l at (act.Reply replied.Duplicate) (λ p far. far) duty (sym owed) (ap waiter is) (answers Done is)

    pub unwanted_reply : duty ≡ Free → MayAct d (meant meaning_of inhand) a (act.Reply replied.Unwanted)
    unwanted_reply is = acts_alone d inhand a w _ asked (λ x. refl) l at (act.Reply replied.Unwanted) (λ p far. far) duty (sym owed) (ap waiter is) (answers Free is)

    pub reply_reaches : (m : ℕ) (k : Kept) → duty ≡ Owed m → part_at inhand (place_of d (part.cell m)) ≡ Some (kinds.Cell k) → MayAct d (meant meaning_of inhand) a (act.Reply replied.Accepted)
    reply_reaches m k is cell = acts_told d inhand a w _ asked (λ x. refl) l at (act.Reply replied.Accepted) (λ p far. far) m (sym owed ∙ ap Some is) k cell (answers (Owed m) is)
