-- A looper that wants its buffer emptied.
use Rattle.std.proofs.Common.{◌≡◌, ℕ, List, Some, None, inl, inr, refl, sym, ap, ◌∙◌, subst}
use Rattle.std.specs.Prelude.{slice_get}
use Rattle.be_hall.specs.Hands.{meant, part_at}
use Rattle.be_hall.specs.Machine.{IsHeld}
use Rattle.be_script.specs.Script.{Declared}
use Rattle.be_machine.specs.declared.Act.{Act}
use Rattle.be_machine.specs.Legal.{want_act}
use Rattle.be_machine.specs.State.{State}
use Rattle.be_machine.specs.Touched as part
use Rattle.be_machine.specs.Wants as wants
use Rattle.be_parts.specs.Kept.{Kept}
use Rattle.be_parts.specs.Parts.{meaning_of}
use Rattle.be_parts.specs.declared.part.Part as parts
use Rattle.be_parts.specs.declared.part.Part.TheVariants as kinds
use Rattle.be_rules.specs.Found.{CannotAct, NeedsPart}
use Rattle.be_rules.specs.Places.{place_of}
use Rattle.be_rules.specs.Sure.{IsAmong, parts_by, seen_in}
use Rattle.be_asking.specs.Deeds.{IsAsked, MayAct}
use Rattle.be_asking.specs.Finding.{IsMissing, IsReachable}
use Rattle.be_asking.specs.declared.activity.Activity.TheVariants as who
use Rattle.be_asking.specs.declared.activity.Runner.TheVariants as by
use Rattle.be_asking.specs.declared.want.Want.TheVariants as want
use Rattle.be_asking.specs.Acts.{flush_by}
use Rattle.be_machine.specs.Lists.{with_both}
use Rattle.be_rules.specs.Slices.{Slice, buffer_in, link_in}
use Rattle.be_asking.proofs.Asked.{buffer_is, here, link_is, may, missing, reach, s, waits}

module _ (d : Declared) (inhand : List (ℕ × parts.Part)) (a w : ℕ) (asked : IsAsked d inhand a (who.Runner (by.Looper w)) (want.Flushes w)) where
  abbrev now : State
  now = s d inhand a _ _ asked

  pub reach_looper : IsReachable d inhand (part.looper w)
  reach_looper = reach d inhand a _ _ asked (part.looper w) (inl refl)

  pub reach_link : IsReachable d inhand (part.link w)
  reach_link = reach d inhand a _ _ asked (part.link w) (inr (inl refl))

  pub needs_looper : (place : ℕ) → IsMissing d inhand (part.looper w) place → NeedsPart d (meant meaning_of inhand) a place
  needs_looper place gone = missing d inhand a _ _ asked (part.looper w) place gone (inl refl)

  pub needs_link : (place : ℕ) → IsMissing d inhand (part.link w) place → NeedsPart d (meant meaning_of inhand) a place
  needs_link place gone = missing d inhand a _ _ asked (part.link w) place gone (inr (inl refl))

  module _ (l : Kept) (q : Slice) (at_looper : part_at inhand (place_of d (part.looper w)) ≡ Some (kinds.Looper l)) (at_link : part_at inhand (place_of d (part.link w)) ≡ Some (kinds.Link q)) where
    there : (p : part.Part) → IsAmong p (parts_by (seen_in now) (wants.flushes w)) → IsHeld (meant meaning_of inhand) (place_of d p)
    there p (inl is) = subst (λ x. IsHeld (meant meaning_of inhand) (place_of d x)) (sym is) (here d inhand a _ _ asked (part.looper w) (kinds.Looper l) at_looper)
    there p (inr (inl is)) = subst (λ x. IsHeld (meant meaning_of inhand) (place_of d x)) (sym is) (here d inhand a _ _ asked (part.link w) (kinds.Link q) at_link)
    there p (inr (inr nobody)) = absurd nobody

    acts : want_act d now (wants.flushes w) ≡ with_both (flush_by w) (buffer_in l.slice) (link_in q)
    unfolding want_act
    acts =
        ap (λ o. with_both (flush_by w) o (slice_get now.links w)) (buffer_is d inhand a _ _ asked w (kinds.Looper l) reach_looper.there at_looper)
        ∙ ap (with_both (flush_by w) (buffer_in l.slice)) (link_is d inhand a _ _ asked w (kinds.Link q) reach_link.there at_link)

    pub flush_waits : with_both (flush_by w) (buffer_in l.slice) (link_in q) ≡ None → CannotAct d (meant meaning_of inhand) a
    flush_waits none = waits d inhand a _ _ asked (λ stop. absurd (cc)) there (acts ∙ none)

    pub flushes : (act : Act) → with_both (flush_by w) (buffer_in l.slice) (link_in q) ≡ Some act → MayAct d (meant meaning_of inhand) a act
    flushes act some = may d inhand a _ _ asked act (λ p far. absurd far) there (acts ∙ some)
