-- A looper that wants a letter.
use Rattle.std.proofs.Common.{◌≡◌, ℕ, ◌+◌, List, Option, Some, None, ◌⊎◌, inl, inr, refl, sym, ap, ◌∙◌, subst}
use Rattle.std.specs.Prelude.{slice_get, option_map}
use Rattle.be_hall.specs.Hands.{meant, part_at}
use Rattle.be_hall.specs.Machine.{IsHeld}
use Rattle.be_looper.specs.declared.Owner.{Owner}
use Rattle.be_looper.specs.declared.Owner.TheVariants as owners
use Rattle.be_message.specs.Messages.{Message}
use Rattle.be_port.specs.Laws.{EmptyAsPort, TakesAsPort}
use Rattle.be_port.specs.Ports.{Port}
use Rattle.be_port.specs.Queues.{Queue}
use Rattle.be_port.specs.declared.letter.Letter as code
use Rattle.be_script.specs.Script.{Declared}
use Rattle.be_machine.specs.declared.Act.{Act}
use Rattle.be_machine.specs.declared.Act.TheVariants.{Take}
use Rattle.be_machine.specs.Legal.{want_act}
use Rattle.be_machine.specs.Lists.{with_both}
use Rattle.be_machine.specs.Port.{take_act}
use Rattle.be_machine.specs.State.{Looper, free, locked, handling, State}
use Rattle.be_machine.specs.Touched as part
use Rattle.be_machine.specs.Wants as wants
use Rattle.be_parts.specs.Loopers.{owner_in, owner_of}
use Rattle.be_parts.specs.Parts.{meaning_of}
use Rattle.be_parts.specs.Stands.{PortIs}
use Rattle.be_parts.specs.declared.part.Part as parts
use Rattle.be_parts.specs.declared.part.Part.TheVariants as kinds
use Rattle.be_parts.specs.Kept.{Kept}
use Rattle.be_rules.specs.Found.{CannotAct, NeedsPart}
use Rattle.be_rules.specs.Places.{place_of}
use Rattle.be_rules.specs.Slices.{Slice, desk, input, cell, looper, port, link, pane, looper_in, port_in}
use Rattle.be_rules.specs.Sure.{IsAmong, parts_by, seen_in}
use Rattle.be_asking.specs.Deeds.{IsAsked, MayAct}
use Rattle.be_asking.specs.Finding.{IsMissing, IsReachable}
use Rattle.be_asking.specs.declared.activity.Activity.TheVariants as who
use Rattle.be_asking.specs.declared.activity.Runner.TheVariants as by
use Rattle.be_asking.specs.declared.want.Want.TheVariants as want
use Rattle.be_asking.proofs.Asked.{here, looper_is, may, missing, port_is, reach, s, waits}

-- ---- by the owner, and the letter in front

pub busy : (o : Option Looper) (q : Option (Port Message)) (owner : Owner) → Some owner ≡ option_map owner_in o → (owner ≡ owners.Free → ⊥) → with_both take_act o q ≡ None
busy (Some free) q owner is not = absurd (not (same is))
  where
    owner_or : Option Owner → Owner
    owner_or (Some x) = x
    owner_or None = owners.Free

    same : {x y : Owner} → Some x ≡ Some y → x ≡ y
    same e = ap owner_or e
busy (Some (locked m)) (Some p) owner is not = refl
busy (Some (locked m)) None owner is not = refl
busy (Some (handling hand stage)) (Some p) owner is not = refl
busy (Some (handling hand stage)) None owner is not = refl
busy None (Some p) owner is not = refl
busy None None owner is not = refl

pub idle : (o : Option Looper) → Some owners.Free ≡ option_map owner_in o → o ≡ Some free
idle (Some free) is = refl
idle (Some (locked m)) is = absurd (cc)
idle (Some (handling hand stage)) is = absurd (cc)
idle None is = absurd (cc)

-- what a port's data say of its front
no_front : EmptyAsPort → (slice : Slice) (q : Queue) → PortIs slice q → slice_get q.letters 0 ≡ None → with_both take_act (Some free) (port_in slice) ≡ None
no_front empty (port w (Some p)) q stands none = ap (option_map (λ _. Take (p.taken + 1))) (empty q p stands none).0
no_front empty (port w None) q stands none = absurd stands
no_front empty (desk x) q stands none = absurd stands
no_front empty (input k b) q stands none = absurd stands
no_front empty (cell m a) q stands none = absurd stands
no_front empty (looper w l b) q stands none = absurd stands
no_front empty (link w l) q stands none = absurd stands
no_front empty (pane w x) q stands none = absurd stands

a_front : TakesAsPort → (slice : Slice) (q : Queue) (l : code.Letter) → PortIs slice q → slice_get q.letters 0 ≡ Some l → with_both take_act (Some free) (port_in slice) ≡ Some (Take l.number)
a_front takes (port w (Some p)) q l stands first =
    let m = takes q p stands l first in
    ap (option_map (λ _. Take (p.taken + 1))) m.1 ∙ ap (λ n. Some (Take n)) (sym m.3)
a_front takes (port w None) q l stands first = absurd stands
a_front takes (desk x) q l stands first = absurd stands
a_front takes (input k b) q l stands first = absurd stands
a_front takes (cell m a) q l stands first = absurd stands
a_front takes (looper w b c) q l stands first = absurd stands
a_front takes (link w x) q l stands first = absurd stands
a_front takes (pane w x) q l stands first = absurd stands

-- ---- what is answered

module _ (d : Declared) (inhand : List (ℕ × parts.Part)) (a w : ℕ) (asked : IsAsked d inhand a (who.Runner (by.Looper w)) (want.Takes w)) where
  abbrev now : State
  now = s d inhand a (who.Runner (by.Looper w)) (want.Takes w) asked

  pub reach_looper : IsReachable d inhand (part.looper w)
  reach_looper = reach d inhand a _ _ asked (part.looper w) (inl refl)

  pub reach_port : IsReachable d inhand (part.port w)
  reach_port = reach d inhand a _ _ asked (part.port w) (inr (inl refl))

  pub needs_looper : (place : ℕ) → IsMissing d inhand (part.looper w) place → NeedsPart d (meant meaning_of inhand) a place
  needs_looper place m = missing d inhand a _ _ asked (part.looper w) place m (inl refl)

  pub needs_port : (place : ℕ) → IsMissing d inhand (part.port w) place → NeedsPart d (meant meaning_of inhand) a place
  needs_port place m = missing d inhand a _ _ asked (part.port w) place m (inr (inl refl))

  module _ (l : Kept) (q : Slice) (at_looper : part_at inhand (place_of d (part.looper w)) ≡ Some (kinds.Looper l)) (at_port : part_at inhand (place_of d (part.port w)) ≡ Some (kinds.Port q)) where
    there : (p : part.Part) → IsAmong p (parts_by (seen_in now) (wants.takes w)) → IsHeld (meant meaning_of inhand) (place_of d p)
    there p (inl is) = subst (λ x. IsHeld (meant meaning_of inhand) (place_of d x)) (sym is) (here d inhand a _ _ asked (part.looper w) (kinds.Looper l) at_looper)
    there p (inr (inl is)) = subst (λ x. IsHeld (meant meaning_of inhand) (place_of d x)) (sym is) (here d inhand a _ _ asked (part.port w) (kinds.Port q) at_port)
    there p (inr (inr nobody)) = absurd nobody

    acts : want_act d now (wants.takes w) ≡ with_both take_act (looper_in l.slice) (port_in q)
    unfolding want_act
    acts =
        ap (λ o. with_both take_act o (slice_get now.ports w)) (looper_is d inhand a _ _ asked w (kinds.Looper l) reach_looper.there at_looper)
        ∙ ap (with_both take_act (looper_in l.slice)) (port_is d inhand a _ _ asked w (kinds.Port q) reach_port.there at_port)

    pub takes_not : with_both take_act (looper_in l.slice) (port_in q) ≡ None → CannotAct d (meant meaning_of inhand) a
    takes_not none = waits d inhand a _ _ asked (λ is. absurd (cc)) there (acts ∙ none)

    pub takes : (act : Act) → with_both take_act (looper_in l.slice) (port_in q) ≡ Some act → MayAct d (meant meaning_of inhand) a act
    takes act some = may d inhand a _ _ asked act (λ p far. absurd far) there (acts ∙ some)

    pub waits_busy : (owner : Owner) → Some owner ≡ owner_of l.slice → (owner ≡ owners.Free → ⊥) → CannotAct d (meant meaning_of inhand) a
    waits_busy owner is not = takes_not (busy (looper_in l.slice) (port_in q) owner is not)

    pub waits_empty : EmptyAsPort → (queue : Queue) → Some owners.Free ≡ owner_of l.slice → PortIs q queue → slice_get queue.letters 0 ≡ None → CannotAct d (meant meaning_of inhand) a
    waits_empty empty queue is stands none = takes_not (ap (λ o. with_both take_act o (port_in q)) (idle (looper_in l.slice) is) ∙ no_front empty q queue stands none)

    pub takes_front : TakesAsPort → (queue : Queue) (first : code.Letter) → Some owners.Free ≡ owner_of l.slice → PortIs q queue → slice_get queue.letters 0 ≡ Some first → MayAct d (meant meaning_of inhand) a (Take first.number)
    takes_front law queue first is stands some = takes (Take first.number) (ap (λ o. with_both take_act o (port_in q)) (idle (looper_in l.slice) is) ∙ a_front law q queue first stands some)

-- an owner that isn't nobody
pub owned : (owner : Owner) → (owner ≡ owners.Own) ⊎ ((m : ℕ) × (owner ≡ owners.App m)) → owner ≡ owners.Free → ⊥
owned owner (inl own) is = let both : owners.Own ≡ owners.Free = sym own ∙ is in absurd (cc)
owned owner (inr app) is = let both : owners.App app.0 ≡ owners.Free = sym app.1 ∙ is in absurd (cc)
