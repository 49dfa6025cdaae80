-- The change at the front of a window's link can be planned, or is refused.
use Rattle.std.proofs.Common.{◌≡◌, ℕ, ◌<◌, List, length, Some, Result, Ok, Err, inl, inr, refl, sym, ap, ◌∙◌, subst}
use Rattle.std.specs.Prelude.{IfOk}
use Rattle.std.proofs.lemmas.Option.{same_Some}
use Rattle.be_asking.proofs.Asked.{fits, own, wanted}
use Rattle.be_asking.proofs.ChangesAnswered as answered
use Rattle.be_asking.proofs.ExecutesAnswered.{front_now, link_held}
use Rattle.be_asking.proofs.InHand.{desk_read, not_held}
use Rattle.be_asking.specs.declared.activity.Activity.{Activity}
use Rattle.be_asking.specs.declared.activity.Activity.TheVariants as who
use Rattle.be_asking.specs.declared.want.Want.{Want}
use Rattle.be_asking.specs.declared.want.Want.TheVariants as want
use Rattle.be_command.specs.declared.Command.TheVariants as command
use Rattle.be_desk.specs.Changes.{Desk, desk_after}
use Rattle.be_desk.specs.Desks.{IsPaired, IsRefusedFor}
use Rattle.be_desk.specs.declared.fault.PlanFault.{PlanFault}
use Rattle.be_geom.specs.declared.change.Change.{Change}
use Rattle.be_hall.specs.Hands.{meant, part_at}
use Rattle.be_hall.specs.Machine.{IsHeld}
use Rattle.be_link.specs.Queues.{numbered}
use Rattle.be_machine.specs.KeptLimits.{LinkedAreWithinLimits}
use Rattle.be_machine.specs.State.{State}
use Rattle.be_machine.specs.Touched as part
use Rattle.be_parts.specs.Parts.{meaning_of}
use Rattle.be_parts.specs.declared.part.Part.{Part}
use Rattle.be_parts.specs.declared.part.Part.TheVariants as kinds
use Rattle.be_rules.proofs.Far.{needs_altered}
use Rattle.be_rules.proofs.Lawfully.{whole}
use Rattle.be_rules.specs.Far.{IsAltered}
use Rattle.be_rules.specs.Places.{place_of}
use Rattle.be_rules.specs.Slices.{Slice, desk, desk_in}
use Rattle.be_script.specs.Script.{Declared}
use Rattle.be_stack.specs.declared.fault.ChangeFault.{ChangeFault}
use Rattle.be_asking.proofs.ChangesAnswered.{altered_there}
use Rattle.be_steps.proofs.Making.{all, fits_now, now, so}
use Rattle.be_steps.specs.Steps.{IsAllowed}
use Rattle.be_steps.specs.There.{IsThere}
use Rattle.be_ready.proofs.Needed.{held_unless, never_needs}
use Rattle.be_ready.specs.Plannable.{IsPlannable}
use Rattle.be_changes.specs.Planned.{HasDesk, IsNextChange, IsRefusedIn, IsStirredBy}
use Rattle.be_ready.specs.Planning.{IsPlanning, IsRefusal}
use Rattle.be_ready.specs.declared.planning.Planning.{Planning}

module _ (d : Declared) (parts : List (ℕ × Part)) (w : ℕ) (allowed : IsAllowed d parts (who.Twin w) (want.Executes w)) (change : Change) (next : IsNextChange d parts w change) where
  abbrev me : Activity
  me = who.Twin w

  abbrev it : Want
  it = want.Executes w

  abbrev a : ℕ
  a = allowed.number

  abbrev s : State
  s = now d parts me it allowed

  pub desk_there : IsThere d parts part.desk
  desk_there = record {
    reachable = answered.reach_desk d parts a w allowed.asked next.0 change next.1;
    held =
        held_unless parts (place_of d part.desk) (part_at parts (place_of d part.desk)) refl
        (λ none. never_needs d parts me it allowed (place_of d part.desk) (answered.needs_desk d parts a w allowed.asked next.0 change next.1 (place_of d part.desk) (refl, none)));
  }

  own_pane : IsThere d parts (part.pane w)
  own_pane = record {
    reachable = answered.reach_pane d parts a w allowed.asked next.0 change next.1;
    held =
        held_unless parts (place_of d (part.pane w)) (part_at parts (place_of d (part.pane w))) refl
        (λ none. never_needs d parts me it allowed (place_of d (part.pane w)) (answered.needs_pane d parts a w allowed.asked next.0 change next.1 (place_of d (part.pane w)) (refl, none)));
  }

  module _ (slice : Slice) (known : Desk) (at_desk : part_at parts (place_of d part.desk) ≡ Some (kinds.Desk slice)) (told : slice ≡ desk known) where
    has_desk : HasDesk d parts known
    has_desk = at_desk ∙ ap (λ (z : Slice). Some (kinds.Desk z)) told

    desk_is : s.desk ≡ known
    desk_is = same_Some s.desk known (desk_read d parts (all d parts me it allowed) (so d parts me it allowed) (fits_now d parts me it allowed) (kinds.Desk slice) at_desk ∙ ap desk_in told)

    below : (u : ℕ) → IsAltered known w change u → u < length d.windows
    below u other =
        subst (λ n. u < n) (ap (λ (k : Desk). length k.windows.windows) (sym desk_is) ∙ (whole d (all d parts me it allowed) (so d parts me it allowed)).parts.windows)
        (altered_there known w change u other)

    altered_held : (u : ℕ) → IsAltered known w change u → IsHeld (meant meaning_of parts) (place_of d (part.pane u))
    altered_held u other =
        held_unless parts (place_of d (part.pane u)) (part_at parts (place_of d (part.pane u))) refl
        (λ none. never_needs d parts me it allowed (place_of d (part.pane u))
        (needs_altered d (meant meaning_of parts) (all d parts me it allowed) (so d parts me it allowed) (fits d parts a me it allowed.asked) a w u (numbered (next.0, command.Change change)) change allowed.asked.number
        (own d parts a me it allowed.asked) desk_there.held (link_held d parts a w allowed.asked next.0 (command.Change change) next.1) (wanted d parts a me it allowed.asked)
        (front_now d parts a w allowed.asked next.0 (command.Change change) next.1) refl (subst (λ (k : Desk). IsAltered k w change u) (sym desk_is) other) (below u other) (not_held parts (place_of d (part.pane u)) none)))

    stirred_there : (u : ℕ) → IsStirredBy known w change u → IsThere d parts (part.pane u)
    stirred_there u (inl same) = subst (λ n. IsThere d parts (part.pane n)) (sym same) own_pane
    stirred_there u (inr other) = record {
      reachable = record { limits = allowed.asked.limits; fitting = allowed.asked.fitting; there = below u other };
      held = altered_held u other;
    }

    pub plannable : LinkedAreWithinLimits → IsPaired known → IsPlannable d parts known w change
    plannable law paired = record {
      limits = allowed.asked.limits;
      fitting = allowed.asked.fitting;
      at_desk = has_desk;
      asked = answered.allowed d parts a w allowed.asked next.0 change next.1 slice known at_desk told law paired;
      there = stirred_there;
    }

    refuses : (fault : ChangeFault) → desk_after known w change ≡ Err fault → IsRefusedIn d parts w
    refuses fault refused = record { change = change; next = next; known = known; at_desk = has_desk; fault = fault; refused = refused }

    pub refused_in : {E : Type 0} (fault : PlanFault) → IsRefusedFor (desk_after known w change) fault → (r : Result Planning E) → IfOk r (IsRefusal fault) → IfOk r (IsPlanning d parts w change)
    refused_in fault refused (Ok planning) (is, causes) = let cause = causes (desk_after known w change) refused in subst (IsPlanning d parts w change) (sym is) (refuses cause.0 cause.1)
    refused_in fault refused (Err e) is = tt
