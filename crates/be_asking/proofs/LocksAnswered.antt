-- Who wants a lock, and an application that wants its reply.
use Rattle.std.proofs.Common.{◌≡◌, ℕ, List, Option, Some, None, inl, inr, refl, sym, ap, ◌∙◌, subst}
use Rattle.std.specs.Prelude.{option_map, option_and_then}
use Rattle.be_hall.specs.Hands.{meant, part_at}
use Rattle.be_hall.specs.Machine.{IsHeld}
use Rattle.be_script.specs.Script.{Declared}
use Rattle.be_machine.specs.declared.Act.TheVariants as act
use Rattle.be_machine.specs.Legal.{want_act, wish_act}
use Rattle.be_machine.specs.State.{State}
use Rattle.be_machine.specs.Touched as part
use Rattle.be_machine.specs.Wants as wants
use Rattle.be_parts.specs.Kept.{Kept}
use Rattle.be_parts.specs.Parts.{meaning_of}
use Rattle.be_parts.specs.declared.part.Part as parts
use Rattle.be_parts.specs.declared.part.Part.TheVariants as kinds
use Rattle.be_rules.specs.Found.{CannotAct, NeedsPart}
use Rattle.be_rules.specs.Places.{place_of}
use Rattle.be_rules.specs.Sure.{IsAmong, parts_by, seen_in}
use Rattle.be_asking.specs.Deeds.{IsAsked, MayAct}
use Rattle.be_asking.specs.Finding.{IsMissing, IsReachable}
use Rattle.be_asking.specs.declared.activity.Activity.TheVariants as who
use Rattle.be_asking.specs.declared.activity.Runner.TheVariants as by
use Rattle.be_asking.specs.declared.want.Request.TheVariants as request
use Rattle.be_asking.specs.declared.want.Want.TheVariants as want
use Rattle.be_actor.specs.declared.Wish.TheVariants as wish
use Rattle.be_looper.specs.declared.Owner.{Owner}
use Rattle.be_looper.specs.declared.Owner.TheVariants as owners
use Rattle.be_message.specs.Messages.{Message}
use Rattle.be_reply.specs.Cells as reply
use Rattle.be_machine.specs.Looper.{kind_of_reply, lock_act}
use Rattle.be_machine.specs.State.{App, Looper, free, locked, handling}
use Rattle.be_machine.specs.Activities as machine
use Rattle.be_parts.specs.Loopers.{owner_in, owner_of}
use Rattle.be_rules.specs.Slices.{app_in, looper_in}
use Rattle.be_asking.proofs.Asked.{cell_is, here, looper_is, may, missing, own, reach, s, waits}
use Rattle.be_asking.specs.Wants.{runner_in}
use Rattle.be_asking.specs.declared.activity.Runner.{Runner}
use Rattle.be_asking.proofs.PostsAnswered.{own_held}
use Rattle.be_asking.proofs.Takes.{idle}

-- ---- locks

held_by : (w : ℕ) (o : Option Looper) (owner : Owner) → Some owner ≡ option_map owner_in o → (owner ≡ owners.Free → ⊥) → option_and_then (lock_act w) o ≡ None
held_by w (Some free) owner is not = absurd (not (same is))
  where
    owner_or : Option Owner → Owner
    owner_or (Some x) = x
    owner_or None = owners.Free

    same : {x y : Owner} → Some x ≡ Some y → x ≡ y
    same e = ap owner_or e
held_by w (Some (locked m)) owner is not = refl
held_by w (Some (handling hand stage)) owner is not = refl
held_by w None owner is not = refl

module _ (d : Declared) (inhand : List (ℕ × parts.Part)) (a : ℕ) (r : Runner) (w : ℕ) (asked : IsAsked d inhand a (who.Runner r) (want.Asks r (request.Lock w))) where
  abbrev now : State
  now = s d inhand a _ _ asked

  abbrev wanted : wants.Want
  wanted = wants.asks (runner_in r) (wish.Lock w)

  pub reach_looper : IsReachable d inhand (part.looper w)
  reach_looper = reach d inhand a _ _ asked (part.looper w) (inr (inl refl))

  pub needs_looper : (place : ℕ) → IsMissing d inhand (part.looper w) place → NeedsPart d (meant meaning_of inhand) a place
  needs_looper place gone = missing d inhand a _ _ asked (part.looper w) place gone (inr (inl refl))

  module _ (l : Kept) (at : part_at inhand (place_of d (part.looper w)) ≡ Some (kinds.Looper l)) where
    there : (p : part.Part) → IsAmong p (parts_by (seen_in now) wanted) → IsHeld (meant meaning_of inhand) (place_of d p)
    there p (inl is) = subst (λ x. IsHeld (meant meaning_of inhand) (place_of d x)) (sym is) (own_held d (meant meaning_of inhand) asked.fitting.0 r (own d inhand a _ _ asked))
    there p (inr (inl is)) = subst (λ x. IsHeld (meant meaning_of inhand) (place_of d x)) (sym is) (here d inhand a _ _ asked (part.looper w) (kinds.Looper l) at)
    there p (inr (inr nobody)) = absurd nobody

    acts : want_act d now wanted ≡ option_and_then (lock_act w) (looper_in l.slice)
    unfolding want_act wish_act
    acts = ap (option_and_then (lock_act w)) (looper_is d inhand a _ _ asked w (kinds.Looper l) reach_looper.there at)

    pub lock_waits : (owner : Owner) → Some owner ≡ owner_of l.slice → (owner ≡ owners.Free → ⊥) → CannotAct d (meant meaning_of inhand) a
    lock_waits owner is not = waits d inhand a _ _ asked (λ stop. absurd (cc)) there (acts ∙ held_by w (looper_in l.slice) owner is not)

    pub locks : Some owners.Free ≡ owner_of l.slice → MayAct d (meant meaning_of inhand) a (act.Lock w)
    locks is = may d inhand a _ _ asked (act.Lock w) (λ p far. absurd far) there (acts ∙ ap (option_and_then (lock_act w)) (idle (looper_in l.slice) is))

-- ---- claims

module _ (d : Declared) (inhand : List (ℕ × parts.Part)) (a m : ℕ) (asked : IsAsked d inhand a (who.Runner (by.App m)) (want.Asks (by.App m) request.Claim)) where
  abbrev later : State
  later = s d inhand a _ _ asked

  abbrev claims : wants.Want
  claims = wants.asks (machine.app m) wish.Claim

  pub reach_cell : IsReachable d inhand (part.cell m)
  reach_cell = reach d inhand a _ _ asked (part.cell m) (inl refl)

  pub needs_cell : (place : ℕ) → IsMissing d inhand (part.cell m) place → NeedsPart d (meant meaning_of inhand) a place
  needs_cell place gone = missing d inhand a _ _ asked (part.cell m) place gone (inl refl)

  module _ (k : Kept) (at : part_at inhand (place_of d (part.cell m)) ≡ Some (kinds.Cell k)) (c : reply.Cell) (has : option_map (λ (app : App). app.cell) (app_in k.slice) ≡ Some c) where
    own_there : (p : part.Part) → IsAmong p (parts_by (seen_in later) claims) → IsHeld (meant meaning_of inhand) (place_of d p)
    own_there p (inl is) = subst (λ x. IsHeld (meant meaning_of inhand) (place_of d x)) (sym is) (here d inhand a _ _ asked (part.cell m) (kinds.Cell k) at)
    own_there p (inr nobody) = absurd nobody

    claim_acts : want_act d later claims ≡ option_map (λ (r : Message). act.Claim (kind_of_reply r)) (reply.reply_in c)
    unfolding want_act wish_act
    claim_acts =
        ap (λ o. option_map (λ (r : Message). act.Claim (kind_of_reply r)) (option_and_then reply.reply_in (option_map (λ (app : App). app.cell) o))) (cell_is d inhand a _ _ asked m (kinds.Cell k) reach_cell.there at)
        ∙ ap (λ o. option_map (λ (r : Message). act.Claim (kind_of_reply r)) (option_and_then reply.reply_in o)) has

    pub claim_waits : reply.reply_in c ≡ None → CannotAct d (meant meaning_of inhand) a
    claim_waits none = waits d inhand a _ _ asked (λ stop. absurd (cc)) own_there (claim_acts ∙ ap (option_map (λ (r : Message). act.Claim (kind_of_reply r))) none)

    pub claims_it : (r : Message) → reply.reply_in c ≡ Some r → MayAct d (meant meaning_of inhand) a (act.Claim (kind_of_reply r))
    claims_it r some = may d inhand a _ _ asked (act.Claim (kind_of_reply r)) (λ p far. absurd far) own_there (claim_acts ∙ ap (option_map (λ (r : Message). act.Claim (kind_of_reply r))) some)
