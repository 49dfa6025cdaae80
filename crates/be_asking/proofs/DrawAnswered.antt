-- A looper that wants to end its drawing.
use Rattle.std.proofs.Common.{◌≡◌, ℕ, ◌≤◌, List, Option, Some, None, inl, inr, refl, sym, ap, ◌∙◌, subst}
use Rattle.std.specs.Prelude.{option_and_then}
use Rattle.be_hall.specs.Hands.{meant, part_at}
use Rattle.be_hall.specs.Machine.{IsHeld}
use Rattle.be_script.specs.Script.{Declared}
use Rattle.be_machine.specs.declared.Act.{Act}
use Rattle.be_machine.specs.Legal.{want_act}
use Rattle.be_machine.specs.State.{State}
use Rattle.be_machine.specs.Touched as part
use Rattle.be_machine.specs.Wants as wants
use Rattle.be_parts.specs.Kept.{Kept}
use Rattle.be_parts.specs.Parts.{meaning_of}
use Rattle.be_parts.specs.declared.part.Part as parts
use Rattle.be_parts.specs.declared.part.Part.TheVariants as kinds
use Rattle.be_rules.specs.Found.{CannotAct, NeedsPart}
use Rattle.be_rules.specs.Places.{place_of}
use Rattle.be_rules.specs.Sure.{IsAmong, parts_by, seen_in}
use Rattle.be_asking.specs.Deeds.{IsAsked, MayAct}
use Rattle.be_asking.specs.Finding.{IsMissing, IsReachable}
use Rattle.be_asking.specs.declared.activity.Activity.TheVariants as who
use Rattle.be_asking.specs.declared.activity.Runner.TheVariants as by
use Rattle.be_asking.specs.declared.want.Want.TheVariants as want
use Rattle.std.specs.Option.{IfSome}
use Rattle.be_link.specs.Queues.{Buffer}
use Rattle.be_asking.specs.Acts.{draw_by}
use Rattle.be_rules.specs.Slices.{buffer_in}
use Rattle.be_asking.proofs.Asked.{buffer_is, here, may, missing, reach, s, waits}
use Rattle.be_asking.proofs.Small.{small, small_buffer}

module _ (d : Declared) (inhand : List (ℕ × parts.Part)) (a w : ℕ) (asked : IsAsked d inhand a (who.Runner (by.Looper w)) (want.DrawsEnd w)) where
  abbrev now : State
  now = s d inhand a _ _ asked

  pub reach_looper : IsReachable d inhand (part.looper w)
  reach_looper = reach d inhand a _ _ asked (part.looper w) (inl refl)

  pub needs_looper : (place : ℕ) → IsMissing d inhand (part.looper w) place → NeedsPart d (meant meaning_of inhand) a place
  needs_looper place gone = missing d inhand a _ _ asked (part.looper w) place gone (inl refl)

  module _ (l : Kept) (at : part_at inhand (place_of d (part.looper w)) ≡ Some (kinds.Looper l)) where
    there : (p : part.Part) → IsAmong p (parts_by (seen_in now) (wants.draws_end w)) → IsHeld (meant meaning_of inhand) (place_of d p)
    there p (inl is) = subst (λ x. IsHeld (meant meaning_of inhand) (place_of d x)) (sym is) (here d inhand a _ _ asked (part.looper w) (kinds.Looper l) at)
    there p (inr nobody) = absurd nobody

    few_by : (o : Option Buffer) → buffer_in l.slice ≡ o → IfSome o (λ b. b.made ≤ 4611686018427387904)
    few_by (Some b) e = small_buffer 4611686018427387904 l.slice b (small 4611686018427387904 inhand (place_of d (part.looper w)) (kinds.Looper l) asked.small at) e
    few_by None e = tt

    pub few : IfSome (buffer_in l.slice) (λ b. b.made ≤ 4611686018427387904)
    few = few_by (buffer_in l.slice) refl

    acts : want_act d now (wants.draws_end w) ≡ option_and_then (draw_by w) (buffer_in l.slice)
    unfolding want_act
    acts = ap (option_and_then (draw_by w)) (buffer_is d inhand a _ _ asked w (kinds.Looper l) reach_looper.there at)

    pub draw_waits : option_and_then (draw_by w) (buffer_in l.slice) ≡ None → CannotAct d (meant meaning_of inhand) a
    draw_waits none = waits d inhand a _ _ asked (λ stop. absurd (cc)) there (acts ∙ none)

    pub draws : (act : Act) → option_and_then (draw_by w) (buffer_in l.slice) ≡ Some act → MayAct d (meant meaning_of inhand) a act
    draws act some = may d inhand a _ _ asked act (λ p far. absurd far) there (acts ∙ some)
