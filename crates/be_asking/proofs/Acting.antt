-- What an activity may do in one sound list with the parts in hand it may do in each, where all that it touches is in hand.
use Rattle.std.proofs.Common.{◌≡◌, ℕ, List, Some, inl, inr, ⊎_elim, sym, ap, subst, ◌∙◌}
use Rattle.std.specs.Prelude.{option_and_then}
use Rattle.std.proofs.lemmas.Option.{same_Some}
use Rattle.be_hall.specs.Machine.{Fits, IsHeld}
use Rattle.be_script.specs.Script.{Declared}
use Rattle.be_machine.specs.Activities.{Activity, activity_of}
use Rattle.be_machine.specs.declared.Act.{Act}
use Rattle.be_machine.specs.declared.Entry.{Entry}
use Rattle.be_machine.specs.Legal.{IsLegal, legal_act, want_act}
use Rattle.be_machine.specs.State.{State}
use Rattle.be_machine.specs.Step.{step}
use Rattle.be_machine.specs.Touched.{Part, Touches}
use Rattle.be_machine.specs.Wants.{Want, want_of}
use Rattle.be_machine.proofs.Histories.{in_range}
use Rattle.be_machine.proofs.LegalEntries.{maker_is}
use Rattle.be_rules.specs.Far.{IsFar}
use Rattle.be_rules.specs.Places.{place_of}
use Rattle.be_rules.specs.Rules.{IsSound, TouchesAt, kept_at}
use Rattle.be_rules.specs.Slices.{Slice, state_of}
use Rattle.be_rules.specs.Sure.{seen_in, parts_by, IsAmong}
use Rattle.be_rules.proofs.Keepers.{own_of, kept_there, kept_touched}
use Rattle.be_rules.proofs.Known.{ready_by}
use Rattle.be_rules.proofs.Lawfully.{state, back}
use Rattle.be_rules.proofs.SureParts.{near}
use Rattle.be_asking.specs.Deeds.{MayAct}
use Rattle.be_asking.proofs.Spotted.{spot}

module _ (d : Declared) (held : List (ℕ × Slice)) (all : List Slice) (sound : IsSound d all) (fits : Fits all held) (a : ℕ) (who : Activity) (want : Want) (act : Act)
    (number : activity_of d a ≡ Some who) (wanted : want_of d (state d all sound) who ≡ Some want) (may : want_act d (state d all sound) want ≡ Some act) where
  abbrev s : State
  s = state d all sound

  abbrev e : Entry
  e = record { actor = a; act = act }

  asked : option_and_then (want_of d s) (activity_of d a) ≡ Some want
  asked = ap (option_and_then (want_of d s)) number ∙ wanted

  legal_here : legal_act d s a ≡ Some act
  unfolding legal_act
  legal_here = ap (option_and_then (want_act d s)) asked ∙ may

  legal : IsLegal d (state_of d all) e
  legal = ap (λ t. legal_act d t a) (back d all sound) ∙ legal_here

  -- whatever the entry touches is in hand
  abbrev AllHeld : Type 0
  AllHeld = (p : Part) → Touches s (step d s e) want p → IsHeld held (place_of d p)

  own_touched : Touches s (step d s e) want (own_of who)
  own_touched = subst (λ (m : Activity). Touches s (step d s e) want (own_of m)) (maker_is d s who want wanted) (kept_touched d s (step d s e) want act may)

  held_at : AllHeld → (p : ℕ) → TouchesAt d s e p → IsHeld held p
  held_at touched p (inl is) =
      let there = kept_there d who (in_range d a who number) in
      let at : p ≡ place_of d (own_of who) = is ∙ ap (kept_at d) number ∙ spot d (kept_at d (Some who)) (own_of who) there in
      subst (IsHeld held) (sym at) (touched (own_of who) own_touched)
  held_at touched p (inr t) =
      let same : t.want ≡ want = same_Some t.want want (sym t.wanted ∙ asked) in
      subst (IsHeld held) (sym (spot d p t.part t.there)) (touched t.part (subst (λ (w : Want). Touches s (step d s e) w t.part) same t.touched))

  pub can_act_held : AllHeld → MayAct d held a act
  can_act_held touched other sound' fits' =
      ready_by d e held all sound fits legal (λ p t. held_at touched p (subst (λ (z : State). TouchesAt d z e p) (back d all sound) t)) other sound' fits'

  -- where nothing is far off
  pub can_act : ((p : Part) → IsFar s (step d s e) want p → IsHeld held (place_of d p)) → ((p : Part) → IsAmong p (parts_by (seen_in s) want) → IsHeld held (place_of d p)) → MayAct d held a act
  can_act far parts = can_act_held (λ p t. ⊎_elim (parts p) (far p) (near s (step d s e) want p t))
