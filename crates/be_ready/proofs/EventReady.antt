-- The window that an event activates can be planned.
use Rattle.std.proofs.Common.{◌≡◌, ℕ, ◌<◌, List, length, Option, Some, None, refl, sym, ap, ◌∙◌, subst}
use Rattle.std.specs.Prelude.{IfSome, option_map}
use Rattle.be_asking.proofs.UsesAnswered as answered
use Rattle.be_asking.proofs.StirredAnswered.{stirred_below}
use Rattle.be_asking.specs.Using.{IsNextEvent, LacksActive}
use Rattle.be_asking.specs.declared.activity.Activity.TheVariants as who
use Rattle.be_asking.specs.declared.want.Want.{Want}
use Rattle.be_asking.specs.declared.want.Want.TheVariants as want
use Rattle.be_changes.specs.Events.{IsActivation, IsAddressed, IsDeliveredIn}
use Rattle.be_changes.specs.declared.events.Activation.{Activation}
use Rattle.be_changes.specs.declared.events.Addressed.{Addressed}
use Rattle.be_desk.specs.Desks.{IsPaired, desk_of}
use Rattle.be_desk.specs.declared.desk.Desk as code
use Rattle.be_geom.specs.declared.change.Change.TheVariants.{Activate}
use Rattle.be_hall.specs.Hands.{part_at}
use Rattle.be_input.specs.Deliveries as machine
use Rattle.be_input.specs.Seen.{seen_delivery, seen_post}
use Rattle.be_input.specs.declared.Delivery as declared
use Rattle.be_input.specs.declared.Event.{Event}
use Rattle.be_machine.specs.Touched as part
use Rattle.be_parts.specs.declared.part.Part.{Part}
use Rattle.be_parts.specs.declared.part.Part.TheVariants as kinds
use Rattle.be_rules.specs.Far.{event_in}
use Rattle.be_rules.specs.Places.{place_of}
use Rattle.be_rules.specs.Slices.{Slice, desk}
use Rattle.be_script.specs.Script.{Declared}
use Rattle.be_script.specs.declared.InputLine.{InputLine}
use Rattle.be_steps.specs.There.{IsThere}
use Rattle.be_ready.proofs.Needed.{held_unless, never_needs}
use Rattle.be_ready.specs.Happening.{MayHappen}
use Rattle.be_ready.specs.Plannable.{IsPlannable}
use Rattle.be_changes.specs.Planned.{HasDesk, IsStirredBy}

module _ (d : Declared) (parts : List (ℕ × Part)) (event : Event) (may : MayHappen d parts event) where
  abbrev it : Want
  it = want.Uses may.line

  abbrev a : ℕ
  a = may.allowed.number

  abbrev next : IsNextEvent d parts a event
  next = record { line = may.line; is = may.is; asked = may.allowed.asked }

  pub desk_there : IsThere d parts part.desk
  desk_there = record {
    reachable = answered.event_reach_desk d parts a event next;
    held =
        held_unless parts (place_of d part.desk) (part_at parts (place_of d part.desk)) refl
        (λ none. never_needs d parts who.Input it may.allowed (place_of d part.desk) (answered.event_needs_desk d parts a event next (place_of d part.desk) (refl, none)));
  }

  module _ (slice : Slice) (at_desk : part_at parts (place_of d part.desk) ≡ Some (kinds.Desk slice)) (known : code.Desk) (told : slice ≡ desk (desk_of known)) (delivery : declared.Delivery) (made : seen_delivery delivery ≡ machine.delivered known.stack known.pointing event) where
    has_desk : HasDesk d parts (desk_of known)
    has_desk = at_desk ∙ ap (λ (z : Slice). Some (kinds.Desk z)) told

    many : length known.stack.windows ≡ length d.windows
    many = answered.many_windows d parts a event next slice at_desk known told delivery made

    module _ (paired : IsPaired (desk_of known)) (w : ℕ) (active : delivery.activate ≡ Some w) where
      below : w < length d.windows
      below = subst (λ (o : Option ℕ). IfSome o (λ v. v < length d.windows)) active (answered.active_is_there d parts a event next slice at_desk known told delivery made)

      stirred_there : (u : ℕ) → IsStirredBy (desk_of known) w Activate u → IsThere d parts (part.pane u)
      stirred_there u stirred =
          let there : u < length d.windows = stirred_below (desk_of known) w u (length d.windows) many below stirred in
          record {
            reachable = record { limits = may.allowed.asked.limits; fitting = may.allowed.asked.fitting; there = there };
            held =
                held_unless parts (place_of d (part.pane u)) (part_at parts (place_of d (part.pane u))) refl
                (λ none. never_needs d parts who.Input it may.allowed (place_of d (part.pane u))
                (answered.needs_active d parts a event next slice at_desk known told delivery made (place_of d (part.pane u))
                (subst (λ (o : Option ℕ). LacksActive d parts (desk_of known) o (place_of d (part.pane u))) (sym active) (record { window = u; stirred = stirred; below = there; missing = (refl, none) }))));
          }

      can_plan : IsPlannable d parts (desk_of known) w Activate
      can_plan = record {
        limits = may.allowed.asked.limits;
        fitting = may.allowed.asked.fitting;
        at_desk = has_desk;
        asked = record { paired = paired; there = subst (λ n. w < n) (sym many) below; named_there = refl; within_limits = refl };
        there = stirred_there;
      }

    plannable_by : IsPaired (desk_of known) → (o : Option ℕ) → delivery.activate ≡ o → IfSome o (λ w. IsPlannable d parts (desk_of known) w Activate)
    plannable_by paired (Some w) is = can_plan paired w is
    plannable_by paired None is = tt

    pub plannable : IsPaired (desk_of known) → IfSome delivery.activate (λ w. IsPlannable d parts (desk_of known) w Activate)
    plannable paired = plannable_by paired delivery.activate refl

    -- ---- all of it

    pub delivers : (first second : Option Addressed) (activation : Option Activation) → IsAddressed (option_map seen_post delivery.first) first → IsAddressed (option_map seen_post delivery.second) second
        → IsActivation d parts (desk_of known) delivery.activate activation → (line : InputLine) → event_in line ≡ Some event
        → IsDeliveredIn d parts line (record { first = first; second = second; activation = activation; under = delivery.under })
    delivers first second activation one two active line is = record {
      event = event;
      is = is;
      known = desk_of known;
      at_desk = has_desk;
      first = subst (λ (x : machine.Delivery). IsAddressed x.first first) made one;
      second = subst (λ (x : machine.Delivery). IsAddressed x.second second) made two;
      activation = subst (λ (x : machine.Delivery). IsActivation d parts (desk_of known) x.activate activation) made active;
      under = ap (λ (x : machine.Delivery). x.under) made;
    }
