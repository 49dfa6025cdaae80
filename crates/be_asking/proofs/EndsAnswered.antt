-- A looper that wants to end the message in its hand.
use Rattle.std.proofs.Common.{◌≡◌, ℕ, List, Option, Some, None, ◌⊎◌, inl, inr, refl, sym, ap, ◌∙◌}
use Rattle.std.specs.Prelude.{option_map}
use Rattle.std.proofs.lemmas.Option.{same_Some}
use Rattle.be_handler.specs.declared.Route.{Route}
use Rattle.be_handler.specs.declared.Route.TheVariants as routes
use Rattle.be_hall.specs.Hands.{meant, part_at}
use Rattle.be_looper.specs.Duties.{Hand, end_telling, no_reply, telling_of, waiter}
use Rattle.be_message.specs.declared.target.Target.{Target}
use Rattle.be_message.specs.Messages.{Message}
use Rattle.be_port.specs.declared.Duty.{Duty}
use Rattle.be_port.specs.declared.Duty.TheVariants.{Owed, Done, Free}
use Rattle.be_script.specs.Script.{Declared}
use Rattle.be_machine.specs.declared.Act.TheVariants as act
use Rattle.be_machine.specs.declared.EndAnswer.TheVariants as end
use Rattle.be_machine.specs.Legal.{want_act}
use Rattle.be_machine.specs.Looper.{end_act, end_of}
use Rattle.be_machine.specs.State.{State}
use Rattle.be_machine.specs.Touched as part
use Rattle.be_machine.specs.Wants as wants
use Rattle.be_parts.specs.Kept.{Kept}
use Rattle.be_parts.specs.Loopers.{duty_in, hand_of}
use Rattle.be_parts.specs.Parts.{meaning_of}
use Rattle.be_parts.specs.declared.part.Part as parts
use Rattle.be_parts.specs.declared.part.Part.TheVariants as kinds
use Rattle.be_rules.specs.Found.{CannotAct}
use Rattle.be_rules.specs.Places.{place_of}
use Rattle.be_asking.specs.Deeds.{IsAsked, MayAct}
use Rattle.be_asking.specs.declared.activity.Activity.TheVariants as who
use Rattle.be_asking.specs.declared.activity.Runner.TheVariants as by
use Rattle.be_asking.specs.declared.want.Want.TheVariants as want
use Rattle.be_asking.proofs.Asked.{s}
use Rattle.be_asking.proofs.WhoWaits.{acts_alone, acts_told, hand_is, no_hand}

end_by : (o : Option (Hand Message)) (duty : Duty) (route : Route) → option_map (λ hand. hand.duty) o ≡ Some duty → option_map (λ hand. hand.route) o ≡ Some route → option_map end_act o ≡ Some (end_of (end_telling duty route))
end_by (Some hand) duty route owed goes =
    ap (λ x. Some (end_of (end_telling x hand.route))) (same_Some hand.duty duty owed)
    ∙ ap (λ x. Some (end_of (end_telling duty x))) (same_Some hand.route route goes)
end_by None duty route owed goes = absurd (cc)

no_end : (o : Option (Hand Message)) → option_map (λ hand. hand.duty) o ≡ None → option_map end_act o ≡ None
no_end (Some hand) none = absurd (cc)
no_end None none = refl

-- nobody waits for a reply
told_nothing : (duty : Duty) (route : Route) → (duty ≡ Done) ⊎ (duty ≡ Free) → (waiter duty ≡ None) × (end_of (end_telling duty route) ≡ act.End end.Nothing)
told_nothing duty route (inl is) = (ap waiter is, ap (λ x. end_of (end_telling x route)) is)
told_nothing duty route (inr is) = (ap waiter is, ap (λ x. end_of (end_telling x route)) is)

-- some handler could have had it
told_none : (m : ℕ) (route : Route) → (route ≡ routes.Skipped) ⊎ ((target : Target) × (route ≡ routes.Handler target)) → telling_of route m ≡ no_reply m
told_none m route (inl is) = ap (λ r. telling_of r m) is
told_none m route (inr has) = ap (λ r. telling_of r m) has.1

module _ (d : Declared) (inhand : List (ℕ × parts.Part)) (a w : ℕ) (asked : IsAsked d inhand a (who.Runner (by.Looper w)) (want.Ends w)) (l : Kept) (at : part_at inhand (place_of d (part.looper w)) ≡ Some (kinds.Looper l)) where
  abbrev now : State
  now = s d inhand a _ _ asked

  acts : want_act d now (wants.ends w) ≡ option_map end_act (hand_of l.slice)
  unfolding want_act
  acts = ap (option_map end_act) (hand_is d inhand a w _ asked (λ x. refl) l at)

  pub end_waits : None ≡ duty_in l.slice → CannotAct d (meant meaning_of inhand) a
  end_waits none = no_hand d inhand a w _ asked (λ x. refl) l at (λ stop. absurd (cc)) (sym none) (acts ∙ no_end (hand_of l.slice) (sym none))

  -- without a route there is no message in hand
  pub no_route : None ≡ option_map (λ (hand : Hand Message). hand.route) (hand_of l.slice) → CannotAct d (meant meaning_of inhand) a
  no_route none = end_waits (no_duty (hand_of l.slice) none)
    where
      no_duty : (o : Option (Hand Message)) → None ≡ option_map (λ hand. hand.route) o → None ≡ option_map (λ hand. hand.duty) o
      no_duty (Some hand) none = absurd (cc)
      no_duty None none = refl

  module _ (duty : Duty) (route : Route) (owed : Some duty ≡ duty_in l.slice) (goes : Some route ≡ option_map (λ (hand : Hand Message). hand.route) (hand_of l.slice)) where
    ends : want_act d now (wants.ends w) ≡ Some (end_of (end_telling duty route))
    ends = acts ∙ end_by (hand_of l.slice) duty route (sym owed) (sym goes)

    pub ends_alone : (duty ≡ Done) ⊎ (duty ≡ Free) → MayAct d (meant meaning_of inhand) a (act.End end.Nothing)
    ends_alone nobody =
        let told = told_nothing duty route nobody in
        acts_alone d inhand a w _ asked (λ x. refl) l at (act.End end.Nothing) (λ p far. far) duty (sym owed) told.0 (ends ∙ ap Some told.1)

    module _ (m : ℕ) (k : Kept) (is : duty ≡ Owed m) (cell : part_at inhand (place_of d (part.cell m)) ≡ Some (kinds.Cell k)) where
      pub ends_unknown : route ≡ routes.Unknown → MayAct d (meant meaning_of inhand) a (act.End end.Unknown)
      ends_unknown unknown =
          acts_told d inhand a w _ asked (λ x. refl) l at (act.End end.Unknown) (λ p far. far) m (sym owed ∙ ap Some is) k cell
          (ends ∙ ap (λ x. Some (end_of (end_telling x route))) is ∙ ap (λ r. Some (end_of (telling_of r m))) unknown)

      pub ends_without : (route ≡ routes.Skipped) ⊎ ((target : Target) × (route ≡ routes.Handler target)) → MayAct d (meant meaning_of inhand) a (act.End end.NoReply)
      ends_without known =
          acts_told d inhand a w _ asked (λ x. refl) l at (act.End end.NoReply) (λ p far. far) m (sym owed ∙ ap Some is) k cell
          (ends ∙ ap (λ x. Some (end_of (end_telling x route))) is ∙ ap (λ t. Some (end_of t)) (told_none m route known))
