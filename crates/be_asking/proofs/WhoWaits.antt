-- A looper that tells who waits for the reply to the letter in its hand.
use Rattle.std.proofs.Common.{◌≡◌, ℕ, List, ◌∷◌, Option, Some, None, inl, inr, refl, sym, ap, ◌∙◌, subst}
use Rattle.std.specs.Prelude.{slice_get, option_map, option_and_then}
use Rattle.std.proofs.lemmas.Option.{same_Some}
use Rattle.be_hall.specs.Hands.{meant, part_at}
use Rattle.be_hall.specs.Machine.{IsHeld}
use Rattle.be_looper.specs.Duties.{Hand, waiter}
use Rattle.be_message.specs.Messages.{Message}
use Rattle.be_port.specs.declared.Duty.{Duty}
use Rattle.be_port.specs.declared.Duty.TheVariants.{Owed}
use Rattle.be_script.specs.Script.{Declared}
use Rattle.be_machine.specs.declared.Act.{Act}
use Rattle.be_machine.specs.Legal.{want_act}
use Rattle.be_machine.specs.Program.{hand_at, hand_in}
use Rattle.be_machine.specs.State.{Looper, State, free, locked, handling}
use Rattle.be_machine.specs.Step.{step}
use Rattle.be_machine.specs.Touched as part
use Rattle.be_machine.specs.Wants as wants
use Rattle.be_parts.specs.Kept.{Kept}
use Rattle.be_parts.specs.Loopers.{duty_in, hand_of}
use Rattle.be_parts.specs.Parts.{meaning_of}
use Rattle.be_parts.specs.declared.part.Part as parts
use Rattle.be_parts.specs.declared.part.Part.TheVariants as kinds
use Rattle.be_rules.specs.Far.{IsFar}
use Rattle.be_rules.specs.Found.{CannotAct, NeedsPart}
use Rattle.be_rules.specs.Places.{place_of}
use Rattle.be_rules.specs.Slices.{looper_in}
use Rattle.be_rules.specs.Sure.{IsAmong, Seen, find_in, in_hand, looper_of, maybe, parts_by, seen_in, waiter_in}
use Rattle.be_asking.specs.Deeds.{IsAsked, MayAct}
use Rattle.be_asking.specs.Finding.{IsMissing, IsReachable}
use Rattle.be_asking.specs.declared.activity.Activity.TheVariants as who
use Rattle.be_asking.specs.declared.activity.Runner.TheVariants as by
use Rattle.be_asking.specs.declared.want.Want.{Want}
use Rattle.be_asking.proofs.Asked.{fits, here, looper_is, may, missing, reach, s, sound, waits, wish}
use Rattle.be_asking.proofs.SeenInHand.{looper_found}

-- who waits, by the duty in hand
by_duty : (o : Option Looper) → option_and_then waiter_in o ≡ option_and_then waiter (option_map (λ (hand : Hand Message). hand.duty) (option_and_then hand_in o))
by_duty (Some (handling hand stage)) = refl
by_duty (Some (locked m)) = refl
by_duty (Some free) = refl
by_duty None = refl

-- a duty is a looper's
a_looper : (o : Option Looper) (duty : Duty) → option_map (λ (hand : Hand Message). hand.duty) (option_and_then hand_in o) ≡ Some duty → (l : Looper) × (o ≡ Some l)
a_looper (Some l) duty is = (l, refl)
a_looper None duty is = absurd (cc)

waiting : (o : Option Looper) (m : ℕ) → option_map (λ (hand : Hand Message). hand.duty) (option_and_then hand_in o) ≡ Some (Owed m) → option_and_then waiter_in o ≡ Some m
waiting o m owed = by_duty o ∙ ap (option_and_then waiter) owed

module _ (d : Declared) (inhand : List (ℕ × parts.Part)) (a w : ℕ) (want : Want) (asked : IsAsked d inhand a (who.Runner (by.Looper w)) want)
    (shape : (x : Seen) → parts_by x (wish d inhand a _ want asked) ≡ part.looper w ∷ maybe part.cell (x.waits w)) where
  abbrev now : State
  now = s d inhand a _ _ asked

  abbrev wanted : wants.Want
  wanted = wish d inhand a _ _ asked

  first : (x : Seen) → IsAmong (part.looper w) (parts_by x wanted)
  first x = subst (IsAmong (part.looper w)) (sym (shape x)) (inl refl)

  second : (x : Seen) (m : ℕ) → x.waits w ≡ Some m → IsAmong (part.cell m) (parts_by x wanted)
  second x m is = subst (IsAmong (part.cell m)) (sym (shape x ∙ ap (λ o. part.looper w ∷ maybe part.cell o) is)) (inr (inl refl))

  pub reach_looper : IsReachable d inhand (part.looper w)
  reach_looper = reach d inhand a _ _ asked (part.looper w) (first (seen_in now))

  pub needs_looper : (place : ℕ) → IsMissing d inhand (part.looper w) place → NeedsPart d (meant meaning_of inhand) a place
  needs_looper place gone = missing d inhand a _ _ asked (part.looper w) place gone (first (in_hand d (meant meaning_of inhand)))

  module _ (l : Kept) (at : part_at inhand (place_of d (part.looper w)) ≡ Some (kinds.Looper l)) where
    read : slice_get now.loopers w ≡ looper_in l.slice
    read = looper_is d inhand a _ _ asked w (kinds.Looper l) reach_looper.there at

    pub hand_is : hand_at now w ≡ hand_of l.slice
    hand_is = ap (option_and_then hand_in) read

    waits_now : (seen_in now).waits w ≡ option_and_then waiter (duty_in l.slice)
    waits_now = ap (option_and_then waiter_in) read ∙ by_duty (looper_in l.slice)

    waits_in_hand : (m : ℕ) → duty_in l.slice ≡ Some (Owed m) → (in_hand d (meant meaning_of inhand)).waits w ≡ Some m
    waits_in_hand m owed =
        let lo = a_looper (looper_in l.slice) (Owed m) owed in
        let found : find_in (looper_of w) (meant meaning_of inhand) ≡ Some lo.0 =
        looper_found d inhand asked.fitting.0 (sound d inhand a _ _ asked) (fits d inhand a _ _ asked) (kinds.Looper l) w lo.0 reach_looper.there at lo.1 in
        ap (option_and_then waiter_in) (found ∙ sym lo.1) ∙ waiting (looper_in l.slice) m owed

    pub reach_cell : (m : ℕ) → duty_in l.slice ≡ Some (Owed m) → IsReachable d inhand (part.cell m)
    reach_cell m owed = reach d inhand a _ _ asked (part.cell m) (second (seen_in now) m (waits_now ∙ ap (option_and_then waiter) owed))

    pub needs_cell : (m : ℕ) → duty_in l.slice ≡ Some (Owed m) → (place : ℕ) → IsMissing d inhand (part.cell m) place → NeedsPart d (meant meaning_of inhand) a place
    needs_cell m owed place gone = missing d inhand a _ _ asked (part.cell m) place gone (second (in_hand d (meant meaning_of inhand)) m (waits_in_hand m owed))

    -- the parts are in hand: that of who waits, where somebody does
    among : (o : Option ℕ) → ((m : ℕ) → o ≡ Some m → IsHeld (meant meaning_of inhand) (place_of d (part.cell m))) → (p : part.Part) → IsAmong p (part.looper w ∷ maybe part.cell o) → IsHeld (meant meaning_of inhand) (place_of d p)
    among o told p (inl is) = subst (λ x. IsHeld (meant meaning_of inhand) (place_of d x)) (sym is) (here d inhand a _ _ asked (part.looper w) (kinds.Looper l) at)
    among (Some m) told p (inr (inl is)) = subst (λ x. IsHeld (meant meaning_of inhand) (place_of d x)) (sym is) (told m refl)
    among (Some m) told p (inr (inr nobody)) = absurd nobody
    among None told p (inr nobody) = absurd nobody

    there : (o : Option ℕ) → option_and_then waiter (duty_in l.slice) ≡ o → ((m : ℕ) → o ≡ Some m → IsHeld (meant meaning_of inhand) (place_of d (part.cell m))) → (p : part.Part) → IsAmong p (parts_by (seen_in now) wanted) → IsHeld (meant meaning_of inhand) (place_of d p)
    there o is told p here = among o told p (subst (IsAmong p) (shape (seen_in now) ∙ ap (λ q. part.looper w ∷ maybe part.cell q) (waits_now ∙ is)) here)

    -- nobody waits
    alone : option_and_then waiter (duty_in l.slice) ≡ None → (p : part.Part) → IsAmong p (parts_by (seen_in now) wanted) → IsHeld (meant meaning_of inhand) (place_of d p)
    alone is = there None is (λ m some. absurd (cc))

    pub no_hand : (wanted ≡ wants.stops → ⊥) → duty_in l.slice ≡ None → want_act d now wanted ≡ None → CannotAct d (meant meaning_of inhand) a
    no_hand still none nothing = waits d inhand a _ _ asked still (alone (ap (option_and_then waiter) none)) nothing

    pub acts_alone : (act : Act) → ((p : part.Part) → IsFar now (step d now (record { actor = a; act = act })) wanted p → ⊥) → (duty : Duty) → duty_in l.slice ≡ Some duty → waiter duty ≡ None → want_act d now wanted ≡ Some act → MayAct d (meant meaning_of inhand) a act
    acts_alone act near duty is nobody acts = may d inhand a _ _ asked act (λ p far. absurd (near p far)) (alone (ap (option_and_then waiter) is ∙ nobody)) acts

    pub acts_told : (act : Act) → ((p : part.Part) → IsFar now (step d now (record { actor = a; act = act })) wanted p → ⊥) → (m : ℕ) → duty_in l.slice ≡ Some (Owed m) → (k : Kept) → part_at inhand (place_of d (part.cell m)) ≡ Some (kinds.Cell k) → want_act d now wanted ≡ Some act → MayAct d (meant meaning_of inhand) a act
    acts_told act near m owed k cell acts =
        may d inhand a _ _ asked act (λ p far. absurd (near p far))
        (there (Some m) (ap (option_and_then waiter) owed) (λ n is. subst (λ x. IsHeld (meant meaning_of inhand) (place_of d (part.cell x))) (same_Some m n is) (here d inhand a _ _ asked (part.cell m) (kinds.Cell k) cell))) acts
