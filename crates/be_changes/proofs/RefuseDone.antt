-- A change of a window that the desk refuses, as a step.
use Rattle.std.proofs.Common.{◌≡◌, ℕ, List, [], ◌∷◌, Some, ◌⊎◌, inl, inr, refl, sym, ap, ◌∙◌, subst, ⊎_elim}
use Rattle.std.specs.Prelude.{option_and_then, slice_get}
use Rattle.std.proofs.lemmas.Option.{same_Some}
use mathlib.Core.Logic.{dite}
use native.Mathlib.Decide.{ℕ_discrete}
use Rattle.be_asking.proofs.ExecutesAnswered.{front_now, oldest_now}
use Rattle.be_asking.specs.declared.activity.Activity.TheVariants as who
use Rattle.be_asking.specs.declared.want.Want.TheVariants as want
use Rattle.be_changes.proofs.ChangeTold.{executed_refused}
use Rattle.be_changes.specs.Planned.{IsRefusedIn}
use Rattle.be_command.specs.Effects.{changes}
use Rattle.be_command.specs.declared.Command.TheVariants as command
use Rattle.be_desk.specs.Changes.{Desk, desk_after}
use Rattle.be_hall.specs.Hands.{Hand, part_at, with_part}
use Rattle.be_link.specs.Queues.{Numbered, numbered, shortened}
use Rattle.be_machine.proofs.Lists.{at_elsewhere}
use Rattle.be_machine.specs.Commands.{executed, without_front}
use Rattle.be_machine.specs.State.{State}
use Rattle.be_machine.specs.Step.{met}
use Rattle.be_machine.specs.Touched as part
use Rattle.be_parts.specs.Effects.{link_with}
use Rattle.be_parts.specs.Parts.{hand_with}
use Rattle.be_parts.specs.declared.part.Part.{Part}
use Rattle.be_parts.specs.declared.part.Part.TheVariants as kinds
use Rattle.be_rules.specs.Places.{place_of}
use Rattle.be_rules.specs.Slices.{Slice, desk, desk_in, link, slice_of}
use Rattle.be_rules.specs.Sure.{IsAmong, effect_parts, seen_in}
use Rattle.be_script.specs.Script.{Declared}
use Rattle.be_steps.proofs.Making.{now, read, then_is, there}
use Rattle.be_steps.proofs.Moved.{at_map}
use Rattle.be_steps.proofs.Whole.{done_whole}
use Rattle.be_steps.specs.Steps.{IsAllowed, IsDone}
use Rattle.be_steps.specs.There.{IsThere}

-- but for its link a window's part is as it was where the front of that link is gone
same_but_link : (s : State) (w : ℕ) (x : part.Part) → (x ≡ part.link w) ⊎ (slice_of (without_front s w) x ≡ slice_of s x)
same_but_link s w (part.link u) =
    dite (ℕ_discrete u w) (λ same. inl (ap part.link same)) (λ other. inr (ap (link u) (at_elsewhere s.links w u shortened (λ same. other (sym same)))))
same_but_link s w part.desk = inr refl
same_but_link s w part.input = inr refl
same_but_link s w (part.cell m) = inr refl
same_but_link s w (part.looper u) = inr refl
same_but_link s w (part.port u) = inr refl
same_but_link s w (part.pane u) = inr refl

module _ (d : Declared) (old : Hand Part) (w : ℕ) (allowed : IsAllowed d old.parts (who.Twin w) (want.Executes w)) (is : IsRefusedIn d old.parts w) where
  abbrev s : State
  s = now d old.parts (who.Twin w) (want.Executes w) allowed

  abbrev later : State
  later = then_is d old.parts (who.Twin w) (want.Executes w) allowed

  abbrev this : Numbered
  this = numbered (is.next.0, command.Change is.change)

  front : option_and_then (λ (l : List Numbered). slice_get l 0) (slice_get s.links w) ≡ Some this
  front = front_now d old.parts allowed.number w allowed.asked is.next.0 (command.Change is.change) is.next.1

  seen : (seen_in s).oldest w ≡ Some (changes is.change)
  seen = oldest_now d old.parts allowed.number w allowed.asked is.next.0 (command.Change is.change) is.next.1

  told : (x : part.Part) → IsAmong x (part.link w ∷ effect_parts w (Some (changes is.change))) → IsThere d old.parts x
  told x among = there d old.parts (who.Twin w) (want.Executes w) allowed x (subst (λ o. IsAmong x (part.link w ∷ effect_parts w o)) (sym seen) among)

  link_there : IsThere d old.parts (part.link w)
  link_there = told (part.link w) (inl refl)

  desk_is : s.desk ≡ is.known
  desk_is = same_Some s.desk is.known (ap desk_in (read d old.parts (who.Twin w) (want.Executes w) allowed part.desk (kinds.Desk (desk is.known)) (told part.desk (inr (inl refl))).reachable.there is.at_desk))

  executed_later : later ≡ executed d s w
  unfolding met
  executed_later = refl

  later_is : later ≡ without_front s w
  later_is = executed_later ∙ executed_refused d s w this is.change front refl is.fault (ap (λ (k : Desk). desk_after k w is.change) desk_is ∙ is.refused)

  module _ (place : ℕ) (spot : place ≡ place_of d (part.link w)) where
    pub link_in_hand : (k : Slice) × (part_at old.parts place ≡ Some (kinds.Link k))
    link_in_hand = (is.next.1.link, ap (part_at old.parts) spot ∙ is.next.1.there)

    pub refuse_done : (q z : Slice) → part_at old.parts place ≡ Some (kinds.Link q) → z ≡ link_with shortened q → IsDone d (who.Twin w) old (hand_with old place (kinds.Link z))
    refuse_done q z at short =
        done_whole d old.parts (who.Twin w) (want.Executes w) allowed old (hand_with old place (kinds.Link z)) ((part.link w, kinds.Link z) ∷ []) refl refl
        (kinds.Link q, ap (part_at old.parts) (sym spot) ∙ at, refl, ap (λ n. with_part old.parts n (kinds.Link z)) spot)
        (inr (link_there.reachable.there, means), tt)
        (λ x. ⊎_elim (λ made. inl (inl made)) (λ same. inr (ap (λ (t : State). slice_of t x) later_is ∙ same)) (same_but_link s w x))
      where
        means : slice_of later (part.link w) ≡ z
        means =
            ap (λ (t : State). slice_of t (part.link w)) later_is ∙ ap (link w) (at_map s.links w shortened)
            ∙ ap (link_with shortened) (read d old.parts (who.Twin w) (want.Executes w) allowed (part.link w) (kinds.Link q) link_there.reachable.there (ap (part_at old.parts) (sym spot) ∙ at))
            ∙ sym short
