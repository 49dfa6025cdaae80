-- An event of mouse or key, as a step.
use Rattle.std.proofs.Common.{◌≡◌, ℕ, ◌+◌, ◌*◌, ◌<◌, ◌≤◌, List, [], ◌∷◌, ◌++◌, length, map, Option, Some, None, Result, Ok, Err, inl, inr, refl, sym, ap, ◌∙◌, subst, ⊎_elim, arith}
use Rattle.std.specs.Prelude.{IfSome, option_map, slice_get}
use Rattle.std.specs.Borrow.{Bor}
use Rattle.std.proofs.lemmas.Option.{same_Some}
use Rattle.be_asking.proofs.Small.{small}
use Rattle.be_asking.specs.declared.activity.Activity.TheVariants as who
use Rattle.be_asking.specs.declared.want.Want.TheVariants as want
use Rattle.be_changes.proofs.ChangeTold.{same_ok}
use Rattle.be_changes.proofs.MadeLists.{all_left, both_left, none_left, one_left, others_stay}
use Rattle.be_changes.proofs.PartLists.{among_either, no_pane}
use Rattle.be_changes.proofs.PlannedPanes.{after_desk, desk_is as desk_known, leaves_as as leaves_known, panes_ready, stirred_made}
use Rattle.be_changes.proofs.PortsPosted.{IsPort, OneMessage, after_post, few_after, may_post, ports_after_post, post_moves, posts_left}
use Rattle.be_changes.proofs.Remembered.{activation_refused, desk_activated, input_activated, ports_activated, posted_state, shown_activated}
use Rattle.be_changes.specs.Activations.{HasActivated, IsToActivate}
use Rattle.be_changes.specs.Events.{IsActivation, IsAddressed, IsDeliveredIn}
use Rattle.be_changes.specs.Left.{HasLeft}
use Rattle.be_changes.specs.Planned.{IsPlannedIn}
use Rattle.be_changes.specs.Posts.{HasPostedTo, MayPost}
use Rattle.be_changes.specs.declared.events.Activation.{Activation}
use Rattle.be_changes.specs.declared.events.Addressed.{Addressed}
use Rattle.be_changes.specs.declared.events.Delivered.{Delivered}
use Rattle.be_desk.specs.Changes.{Desk, desk_after}
use Rattle.be_geom.specs.declared.change.Change.TheVariants.{Activate}
use Rattle.be_hall.proofs.Holding.{with_here}
use Rattle.be_hall.specs.Hands.{Hand, part_at}
use Rattle.be_input.specs.Deliveries.{Delivery, Post, delivered}
use Rattle.be_input.specs.declared.Event.{Event}
use Rattle.be_machine.proofs.Lists as lists
use Rattle.be_machine.specs.Input.{activated, delivery_of, ports_with, with_delivery, with_event}
use Rattle.be_machine.specs.Pixels.{owner_in}
use Rattle.be_machine.specs.State.{State}
use Rattle.be_machine.specs.Step.{met}
use Rattle.be_machine.specs.Touched as part
use Rattle.be_machine.specs.Touched.{IsPostTo, Touches, TouchesActive, TouchesDelivered, TouchesEvent, TouchesPanes}
use Rattle.be_machine.specs.Wants as wants
use Rattle.be_machine.specs.Windows.{changed}
use Rattle.be_message.specs.Messages.{Message}
use Rattle.be_parts.specs.Desks.{under_in}
use Rattle.be_parts.specs.Effects.{desk_with, input_used}
use Rattle.be_parts.specs.Kept.{Kept, Logged}
use Rattle.be_parts.specs.Parts.{hand_with, meaning_of}
use Rattle.be_parts.specs.declared.part.Part.{Part}
use Rattle.be_parts.specs.declared.part.Part.TheVariants as kinds
use Rattle.be_port.specs.Ports.{Port}
use Rattle.be_rules.specs.Far.{event_in, windows_behind, windows_or}
use Rattle.be_rules.specs.Places.{IsPart, place_of}
use Rattle.be_rules.specs.Rules.{SliceFits}
use Rattle.be_rules.specs.Slices.{Slice, desk, desk_in, input_in, pane, port, shown_of, slice_of}
use Rattle.be_rules.specs.Sure.{IsAmong, delivery_parts, event_parts, maybe, post_parts, seen_in}
use Rattle.be_script.specs.Script.{Declared}
use Rattle.be_script.specs.declared.InputLine.{InputLine}
use Rattle.be_script.specs.declared.InputLine.TheVariants as line
use Rattle.be_stack.specs.declared.fault.ChangeFault.{ChangeFault}
use Rattle.be_asking.proofs.FarEvents.{delivered_with}
use Rattle.be_asking.proofs.UsesAnswered.{in_front, behind}
use Rattle.be_steps.proofs.Making.{now, read, settled_now, then_is, there}
use Rattle.be_steps.proofs.PartsKept.{twice}
use Rattle.be_steps.proofs.Stays.{part_held, with_itself}
use Rattle.be_steps.specs.Steps.{IsAllowed, IsDone, LeavesAt}
use Rattle.be_steps.specs.There.{IsThere}
use Rattle.be_steps.proofs.InputGone.{few_by}

-- ---- lines of the input

pub event_told : (s : State) (l : InputLine) (e : Event) → event_in l ≡ Some e → event_parts (seen_in s) l ≡ delivery_parts (Some (delivery_of s e))
event_told s (line.Press at) e is = ap (λ x. delivery_parts (Some (delivery_of s x))) (same_Some _ e is)
event_told s (line.Release at) e is = ap (λ x. delivery_parts (Some (delivery_of s x))) (same_Some _ e is)
event_told s (line.Move at) e is = ap (λ x. delivery_parts (Some (delivery_of s x))) (same_Some _ e is)
event_told s (line.Key key) e is = ap (λ x. delivery_parts (Some (delivery_of s x))) (same_Some _ e is)
event_told s (line.After m) e is = absurd (cc)

event_touched : (s r : State) (l : InputLine) (e : Event) (x : part.Part) → event_in l ≡ Some e → TouchesEvent s r l x → TouchesDelivered s r (delivery_of s e) x
event_touched s r (line.Press at) e x is touched = subst (λ z. TouchesDelivered s r (delivery_of s z) x) (same_Some _ e is) touched
event_touched s r (line.Release at) e x is touched = subst (λ z. TouchesDelivered s r (delivery_of s z) x) (same_Some _ e is) touched
event_touched s r (line.Move at) e x is touched = subst (λ z. TouchesDelivered s r (delivery_of s z) x) (same_Some _ e is) touched
event_touched s r (line.Key key) e x is touched = subst (λ z. TouchesDelivered s r (delivery_of s z) x) (same_Some _ e is) touched
event_touched s r (line.After m) e x is touched = absurd (cc)

posted_among : (o : Option Post) (x : part.Part) → IsPostTo o x → IsAmong x (post_parts o)
posted_among (Some post) x is = inl is
posted_among None x is = is

among_posted : (o : Option Post) (x : part.Part) → IsAmong x (post_parts o) → (post : Post) × (o ≡ Some post) × (x ≡ part.port post.window)
among_posted (Some post) x (inl is) = (post, refl, is)
among_posted (Some post) x (inr never) = absurd never
among_posted None x among = absurd among

-- what is posted is a message of the delivery
of_message : (o : Option Post) (made : Addressed) → IsAddressed o (Some made) → (post : Post) × (o ≡ Some post) × (made.window ≡ post.window)
of_message (Some post) made addressed = (post, refl, addressed.0)
of_message None made addressed = absurd addressed

few_letters : (slice : Slice) (w : ℕ) (p : Port Message) → slice ≡ port w (Some p) → SliceFits 4611686018427387904 slice → length p.arrived ≤ 9223372036854775808
few_letters slice w p is fits =
    let few : length p.arrived ≤ 2 * 4611686018427387904 = subst (SliceFits 4611686018427387904) is fits in
    omega (arith, few)

pub input_in_hand : (d : Declared) (parts : List (ℕ × Part)) (place : ℕ) → place ≡ place_of d part.input → (k : Kept) × (part_at parts (place_of d part.input) ≡ Some (kinds.Input k)) → (k : Kept) × (part_at parts place ≡ Some (kinds.Input k))
input_in_hand d parts place spot (k, at) = (k, ap (part_at parts) spot ∙ at)

-- ---- the step

module _ (d : Declared) (old : Hand Part) (event : Bor InputLine) (allowed : IsAllowed d old.parts who.Input (want.Uses event)) (made : Delivered) (is : IsDeliveredIn d old.parts event.now made) where
  abbrev s : State
  s = now d old.parts who.Input (want.Uses event) allowed

  abbrev later : State
  later = then_is d old.parts who.Input (want.Uses event) allowed

  abbrev dv : Delivery
  dv = delivered is.known.windows is.known.pointing is.event

  desk_is : s.desk ≡ is.known
  desk_is = desk_known d old.parts who.Input (want.Uses event) allowed is.known is.at_desk

  delivery_is : delivery_of s is.event ≡ dv
  delivery_is = ap (λ (k : Desk). delivered k.windows k.pointing is.event) desk_is

  event_later : later ≡ with_event s event.now
  unfolding met
  event_later = refl

  later_is : later ≡ activated (posted_state s dv) dv.activate
  later_is = event_later ∙ delivered_with s event.now is.event is.is ∙ ap (with_delivery s) delivery_is

  -- ---- what is in hand

  told : (x : part.Part) → IsAmong x (part.input ∷ delivery_parts (Some dv)) → IsThere d old.parts x
  told x among =
      there d old.parts who.Input (want.Uses event) allowed x
      (subst (λ l. IsAmong x (part.input ∷ l)) (sym (event_told s event.now is.event is.is ∙ ap (λ z. delivery_parts (Some z)) delivery_is)) among)

  pub input_there : IsThere d old.parts part.input
  input_there = told part.input (inl refl)

  desk_there : IsThere d old.parts part.desk
  desk_there = told part.desk (inr (inl refl))

  port_there : (x : part.Part) → IsAmong x (post_parts dv.first ++ post_parts dv.second) → IsThere d old.parts x
  port_there x among =
      told x (inr (inr (⊎_elim
      (λ first. in_front x (post_parts dv.first) (post_parts dv.second ++ maybe part.pane dv.activate) first)
      (λ second. behind x (post_parts dv.first) (post_parts dv.second ++ maybe part.pane dv.activate) (in_front x (post_parts dv.second) (maybe part.pane dv.activate) second))
      (among_either x (post_parts dv.first) (post_parts dv.second) among))))

  leaves_as : (x : part.Part) (v : Slice) → IsThere d old.parts x → slice_of later x ≡ v → LeavesAt d old.parts who.Input (place_of d x) v
  leaves_as x v known same = leaves_known d old.parts who.Input (want.Uses event) allowed is.known is.at_desk x v known same

  -- ---- the input

  module _ (place : ℕ) (spot : place ≡ place_of d part.input) (was : Kept) (at : part_at old.parts place ≡ Some (kinds.Input was)) where
    input_was : slice_of s part.input ≡ was.slice
    input_was = read d old.parts who.Input (want.Uses event) allowed part.input (kinds.Input was) tt (ap (part_at old.parts) (sym spot) ∙ at)

    pub few_events : IfSome (input_in was.slice) (λ known. known.0 < 18446744073709551615)
    few_events = few_by was.slice s (sym input_was) (small 4611686018427387904 old.parts place (kinds.Input was) allowed.asked.small at)

    input_later : slice_of later part.input ≡ input_used (slice_of s part.input)
    input_later = ap (λ (t : State). slice_of t part.input) later_is ∙ input_activated (posted_state s dv) dv.activate

    module _ (used : Kept) (slice : used.slice ≡ input_used was.slice) (log : used.log ≡ was.log) where
      abbrev begun : Hand Part
      begun = hand_with old place (kinds.Input used)

      input_left : HasLeft d old.parts who.Input (part.input ∷ []) old begun
      input_left =
          one_left d old.parts who.Input old part.input place (kinds.Input was) (kinds.Input used) spot tt at (ap (λ (l : Logged). Some l) log)
          (leaves_as part.input used.slice input_there (input_later ∙ ap input_used input_was ∙ sym slice))

      not_input : (x : part.Part) → (x ≡ part.input → ⊥) → IsAmong x (part.input ∷ []) → ⊥
      not_input x other (inl same) = other same
      not_input x other (inr never) = never

      begun_stays : (x : part.Part) → IsPart d x → (x ≡ part.input → ⊥) → part_at begun.parts (place_of d x) ≡ part_at old.parts (place_of d x)
      begun_stays x is_part other = others_stay d old.parts who.Input (part.input ∷ []) old begun x is_part (not_input x other) input_left

      -- ---- the ports

      -- the port of a message, as the machine has it
      known_port : (w : ℕ) → IsAmong (part.port w) (post_parts dv.first ++ post_parts dv.second) → lists.IsThere s.ports w
      known_port w among = lists.there s.ports w (subst (λ n. w < n) (sym (settled_now d old.parts who.Input (want.Uses event) allowed).parts.ports) (port_there (part.port w) among).reachable.there)

      begun_port : (w : ℕ) (among : IsAmong (part.port w) (post_parts dv.first ++ post_parts dv.second)) → IsPort d begun.parts w (known_port w among).element
      begun_port w among =
          let known = port_there (part.port w) among in
          let y : (y : Part) × (part_at old.parts (place_of d (part.port w)) ≡ Some y) = part_held old.parts (place_of d (part.port w)) known.held in
          record {
            kept = y.0;
            there = begun_stays (part.port w) known.reachable.there (λ same. absurd (cc)) ∙ y.1;
            means = sym (read d old.parts who.Input (want.Uses event) allowed (part.port w) y.0 known.reachable.there y.1) ∙ ap (port w) (known_port w among).read;
          }

      begun_few : (w : ℕ) (among : IsAmong (part.port w) (post_parts dv.first ++ post_parts dv.second)) → length (known_port w among).element.arrived ≤ 9223372036854775808
      begun_few w among =
          let known = port_there (part.port w) among in
          let y : (y : Part) × (part_at old.parts (place_of d (part.port w)) ≡ Some y) = part_held old.parts (place_of d (part.port w)) known.held in
          few_letters (meaning_of y.0) w (known_port w among).element (sym (read d old.parts who.Input (want.Uses event) allowed (part.port w) y.0 known.reachable.there y.1) ∙ ap (port w) (known_port w among).read) (small 4611686018427387904 old.parts (place_of d (part.port w)) y.0 allowed.asked.small y.1)

      first_among : (post : Post) → dv.first ≡ Some post → IsAmong (part.port post.window) (post_parts dv.first ++ post_parts dv.second)
      first_among post said = in_front (part.port post.window) (post_parts dv.first) (post_parts dv.second) (subst (λ o. IsAmong (part.port post.window) (post_parts o)) (sym said) (inl refl))

      second_among : (post : Post) → dv.second ≡ Some post → IsAmong (part.port post.window) (post_parts dv.first ++ post_parts dv.second)
      second_among post said = behind (part.port post.window) (post_parts dv.first) (post_parts dv.second) (subst (λ o. IsAmong (part.port post.window) (post_parts o)) (sym said) (inl refl))

      pub may_first : MayPost d begun.parts 1 made.first
      may_first =
          may_post d begun.parts dv.first made.first is.first
          (λ post said.
          let among = first_among post said in
          let few : length (known_port post.window among).element.arrived ≤ 9223372036854775808 = begun_few post.window among in
          ((known_port post.window among).element, begun_port post.window among, omega (arith, few)))

      module _ (law : OneMessage) (h2 : Hand Part) (first : HasPostedTo d made.first begun h2) where
        first_port : (w : ℕ) (among : IsAmong (part.port w) (post_parts dv.first ++ post_parts dv.second)) → IsPort d h2.parts w (after_post dv.first w (known_port w among).element)
        first_port w among = post_moves d law dv.first made.first begun h2 is.first first w (known_port w among).element (begun_port w among)

        pub may_second : MayPost d h2.parts 1 made.second
        may_second =
            may_post d h2.parts dv.second made.second is.second
            (λ post said.
            let among = second_among post said in
            let few : length (known_port post.window among).element.arrived ≤ 9223372036854775808 = begun_few post.window among in
            let more : length (after_post dv.first post.window (known_port post.window among).element).arrived ≤ length (known_port post.window among).element.arrived + 1 = few_after dv.first post.window (known_port post.window among).element in
            (after_post dv.first post.window (known_port post.window among).element, first_port post.window among, omega (arith, few, more)))

        module _ (h3 : Hand Part) (second : HasPostedTo d made.second h2 h3) where
          last_port : (w : ℕ) (among : IsAmong (part.port w) (post_parts dv.first ++ post_parts dv.second)) → IsPort d h3.parts w (after_post dv.second w (after_post dv.first w (known_port w among).element))
          last_port w among = post_moves d law dv.second made.second h2 h3 is.second second w (after_post dv.first w (known_port w among).element) (first_port w among)

          port_later : (w : ℕ) (among : IsAmong (part.port w) (post_parts dv.first ++ post_parts dv.second)) → slice_of later (part.port w) ≡ port w (Some (after_post dv.second w (after_post dv.first w (known_port w among).element)))
          port_later w among =
              ap (λ (t : State). port w (slice_get t.ports w)) later_is ∙ ap (λ l. port w (slice_get l w)) (ports_activated (posted_state s dv) dv.activate)
              ∙ ap (port w) (ports_after_post (ports_with s.ports dv.first) dv.second w ∙ ap (option_map (after_post dv.second w)) (ports_after_post s.ports dv.first w))
              ∙ ap (λ o. port w (option_map (after_post dv.second w) (option_map (after_post dv.first w) o))) (known_port w among).read

          port_made : (w : ℕ) → IsAmong (part.port w) (post_parts dv.first ++ post_parts dv.second) → IsPart d (part.port w) × ((y : Part) → part_at h3.parts (place_of d (part.port w)) ≡ Some y → LeavesAt d old.parts who.Input (place_of d (part.port w)) (meaning_of y))
          port_made w among =
              let known = port_there (part.port w) among in
              let last = last_port w among in (
                known.reachable.there,
                λ y at_y. leaves_as (part.port w) (meaning_of y) known (port_later w among ∙ sym last.means ∙ ap meaning_of (same_Some last.kept y (sym last.there ∙ at_y))),
              )

          posts_made : HasLeft d old.parts who.Input (post_parts dv.first ++ post_parts dv.second) begun h3
          posts_made =
              posts_left d old.parts who.Input dv.first dv.second made.first made.second begun h2 h3 is.first is.second first second
              (λ a said. ⊎_elim
              (λ one. let post = of_message dv.first a (subst (IsAddressed dv.first) one is.first) in subst (λ w. IsPart d (part.port w) × ((y : Part) → part_at h3.parts (place_of d (part.port w)) ≡ Some y → LeavesAt d old.parts who.Input (place_of d (part.port w)) (meaning_of y))) (sym post.2) (port_made post.0.window (first_among post.0 post.1)))
              (λ two. let post = of_message dv.second a (subst (IsAddressed dv.second) two is.second) in subst (λ w. IsPart d (part.port w) × ((y : Part) → part_at h3.parts (place_of d (part.port w)) ≡ Some y → LeavesAt d old.parts who.Input (place_of d (part.port w)) (meaning_of y))) (sym post.2) (port_made post.0.window (second_among post.0 post.1)))
              said)

          abbrev posted_parts : List part.Part
          posted_parts = part.input ∷ (post_parts dv.first ++ post_parts dv.second)

          posted_left : HasLeft d old.parts who.Input posted_parts old h3
          posted_left = both_left d old.parts who.Input (part.input ∷ []) (post_parts dv.first ++ post_parts dv.second) old begun h3 input_left posts_made

          no_port : (x : part.Part) → ((w : ℕ) → x ≡ part.port w → ⊥) → IsAmong x (post_parts dv.first ++ post_parts dv.second) → ⊥
          no_port x other among =
              ⊎_elim
              (λ one. let post = among_posted dv.first x one in other post.0.window post.2)
              (λ two. let post = among_posted dv.second x two in other post.0.window post.2)
              (among_either x (post_parts dv.first) (post_parts dv.second) among)

          not_posted : (x : part.Part) → (x ≡ part.input → ⊥) → ((w : ℕ) → x ≡ part.port w → ⊥) → IsAmong x posted_parts → ⊥
          not_posted x other others (inl same) = other same
          not_posted x other others (inr among) = no_port x others among

          desk_kept : part_at h3.parts (place_of d part.desk) ≡ Some (kinds.Desk (desk is.known))
          desk_kept = others_stay d old.parts who.Input posted_parts old h3 part.desk tt (not_posted part.desk (λ same. absurd (cc)) (λ w same. absurd (cc))) posted_left ∙ is.at_desk

          pane_kept : (u : ℕ) → IsPart d (part.pane u) → part_at h3.parts (place_of d (part.pane u)) ≡ part_at old.parts (place_of d (part.pane u))
          pane_kept u is_part = others_stay d old.parts who.Input posted_parts old h3 (part.pane u) is_part (not_posted (part.pane u) (λ same. absurd (cc)) (λ w same. absurd (cc))) posted_left

          -- ---- a window that is activated

          abbrev at_the_desk : ℕ
          at_the_desk = place_of d part.desk

          -- what becomes of the panes and of the desk
          record Activated (h4 : Hand Part) : Type 0 where
            between : Hand Part
            panes : List part.Part
            left : HasLeft d old.parts who.Input panes h3 between
            covers : (x : part.Part) → TouchesActive s later dv.activate x → IsAmong x panes
            no_desk : IsAmong part.desk panes → ⊥
            desk_now : (p : Slice) × (part_at h4.parts at_the_desk ≡ Some (kinds.Desk p))
            finish :
                (p v : Slice) → part_at h4.parts at_the_desk ≡ Some (kinds.Desk p) → v ≡ desk_with (under_in made.under) p
                → (hand_with h4 at_the_desk (kinds.Desk v) ≡ hand_with between at_the_desk (kinds.Desk v)) × (slice_of later part.desk ≡ v)

          same_desk : (h : Hand Part) (p q : Slice) → part_at h.parts at_the_desk ≡ Some (kinds.Desk p) → part_at h.parts at_the_desk ≡ Some (kinds.Desk q) → p ≡ q
          same_desk h p q first second = ap meaning_of (same_Some (kinds.Desk p) (kinds.Desk q) (sym first ∙ second))

          -- as it was planned
          module _ (w : ℕ) (m : Activation) (said : dv.activate ≡ Some w) (window : m.plan.window ≡ w) (change : m.plan.change ≡ Activate) (planned : IsPlannedIn d old.parts m.plan m.places.items) where
            a : (a : Desk) × (desk_after s.desk m.plan.window m.plan.change ≡ Ok a)
            a = after_desk d old.parts who.Input (want.Uses event) allowed m.plan m.places.items planned

            taken : desk_after s.desk w Activate ≡ Ok a.0
            taken = ap (λ n. desk_after s.desk n Activate) (sym window) ∙ ap (desk_after s.desk m.plan.window) (sym change) ∙ a.1

            active_later : later ≡ activated (posted_state s dv) (Some w)
            active_later = later_is ∙ ap (activated (posted_state s dv)) said

            pane_later : (u : ℕ) → slice_of later (part.pane u) ≡ pane u (shown_of (changed s m.plan.window m.plan.change) u)
            pane_later u =
                ap (λ (t : State). pane u (shown_of t u)) active_later ∙ ap (pane u) (shown_activated s dv w a.0 taken u)
                ∙ ap (λ n. pane u (shown_of (changed s n Activate) u)) (sym window) ∙ ap (λ c. pane u (shown_of (changed s m.plan.window c) u)) (sym change)

            planned_known : s.desk ≡ planned.known
            planned_known = desk_known d old.parts who.Input (want.Uses event) allowed planned.known planned.at_desk

            planned_ready : IsToActivate d old.parts h3.parts (Some m)
            planned_ready = (
              panes_ready d old.parts who.Input (want.Uses event) allowed m.plan m.places.items planned pane_later h3.parts pane_kept,
              (desk is.known, desk_kept, (planned.known, ap desk (sym desk_is ∙ planned_known), planned.planned.on_desk)),
            )

            desk_later : slice_of later part.desk ≡ desk (under_in dv.under a.0)
            desk_later = ap (λ (t : State). desk t.desk) active_later ∙ ap desk (desk_activated s dv w a.0 taken)

            windows_later : later.desk.windows ≡ windows_behind planned.known m.plan.window m.plan.change
            windows_later =
                ap (λ (t : State). t.desk.windows) active_later ∙ ap (λ (k : Desk). k.windows) (desk_activated s dv w a.0 taken)
                ∙ ap (λ (r : Result Desk ChangeFault). windows_or s.desk.windows r) (sym a.1) ∙ ap (λ (k : Desk). windows_behind k m.plan.window m.plan.change) planned_known

            planned_done : (h4 : Hand Part) → HasActivated d old.parts (Some m) h3 h4 → Activated h4
            planned_done h4 (between, (named, places_are, left), (was, now, at, new_is, changed)) = record {
              between = between;
              panes = map part.pane named;
              left = left;
              covers = λ x touched.
                  stirred_made d old.parts who.Input (want.Uses event) allowed m.plan m.places.items planned windows_later named places_are x
                  (subst (λ n. TouchesPanes s later n x) (sym window) (subst (λ o. TouchesActive s later o x) said touched));
              no_desk = no_pane part.desk (λ u same. absurd (cc)) named;
              desk_now = (now, there_now);
              finish = λ p v at_p is_v. (
                ap (λ (h : Hand Part). hand_with h at_the_desk (kinds.Desk v)) new_is
                    ∙ ap (λ l. record { parts = l; room = between.room }) (twice between.parts at_the_desk (kinds.Desk now) (kinds.Desk v)),
                desk_later ∙ (λ i. desk (under_in (sym is.under i) (after_is i))) ∙ ap (desk_with (under_in made.under)) (sym changed.3) ∙ ap (desk_with (under_in made.under)) (same_desk h4 now p there_now at_p) ∙ sym is_v,
              );
            }
              where
                there_now : part_at h4.parts at_the_desk ≡ Some (kinds.Desk now)
                there_now = ap (λ (h : Hand Part). part_at h.parts at_the_desk) new_is ∙ with_here between.parts at_the_desk (kinds.Desk was) (kinds.Desk now) at

                was_known : was ≡ desk is.known
                was_known =
                    ap meaning_of (same_Some (kinds.Desk was) (kinds.Desk (desk is.known)) (sym at
                    ∙ others_stay d old.parts who.Input (map part.pane named) h3 between part.desk tt (no_pane part.desk (λ u same. absurd (cc)) named) left
                    ∙ desk_kept))

                x_is : changed.0 ≡ s.desk
                x_is = same_Some changed.0 s.desk (ap desk_in (sym changed.2 ∙ was_known) ∙ ap (λ (x : Desk). Some x) (sym desk_is))

                after_is : a.0 ≡ changed.1
                after_is = same_ok a.0 changed.1 (desk_after s.desk m.plan.window m.plan.change) a.1 (ap (λ (x : Desk). desk_after x m.plan.window m.plan.change) (sym x_is) ∙ changed.4)

          -- nothing but the messages and what is under the pointer
          module _ (quiet : later ≡ posted_state s dv) (panes : List part.Part) (left : HasLeft d old.parts who.Input panes h3 h3) (covers : (x : part.Part) → TouchesActive s later dv.activate x → IsAmong x panes) (no_desk : IsAmong part.desk panes → ⊥) where
            quiet_done : (h4 : Hand Part) → h4 ≡ h3 → Activated h4
            quiet_done h4 same = record {
              between = h3;
              panes = panes;
              left = left;
              covers = covers;
              no_desk = no_desk;
              desk_now = (desk is.known, kept_now);
              finish = λ p v at_p is_v. (
                ap (λ (h : Hand Part). hand_with h at_the_desk (kinds.Desk v)) same,
                ap (λ (t : State). desk t.desk) quiet ∙ (λ i. desk (under_in (sym is.under i) (desk_is i))) ∙ ap (desk_with (under_in made.under)) (same_desk h4 (desk is.known) p kept_now at_p) ∙ sym is_v,
              );
            }
              where
                kept_now : part_at h4.parts at_the_desk ≡ Some (kinds.Desk (desk is.known))
                kept_now = ap (λ (h : Hand Part). part_at h.parts at_the_desk) same ∙ desk_kept

          -- a refused activation leaves the window's pane
          module _ (w : ℕ) (said : dv.activate ≡ Some w) (fault : ChangeFault) (refused : desk_after is.known w Activate ≡ Err fault) where
            refused_later : later ≡ posted_state s dv
            refused_later = later_is ∙ ap (activated (posted_state s dv)) said ∙ activation_refused s dv w fault (ap (λ (k : Desk). desk_after k w Activate) desk_is ∙ refused)

            pane_there : IsThere d old.parts (part.pane w)
            pane_there =
                told (part.pane w)
                (inr (inr (behind (part.pane w) (post_parts dv.first) (post_parts dv.second ++ maybe part.pane dv.activate) (behind (part.pane w) (post_parts dv.second) (maybe part.pane dv.activate) (subst (λ o. IsAmong (part.pane w) (maybe part.pane o)) (sym said) (inl refl))))))

            y : (y : Part) × (part_at old.parts (place_of d (part.pane w)) ≡ Some y)
            y = part_held old.parts (place_of d (part.pane w)) pane_there.held

            at_h3 : part_at h3.parts (place_of d (part.pane w)) ≡ Some y.0
            at_h3 = pane_kept w pane_there.reachable.there ∙ y.1

            itself_left : HasLeft d old.parts who.Input (part.pane w ∷ []) h3 h3
            itself_left =
                subst (λ (h : Hand Part). HasLeft d old.parts who.Input (part.pane w ∷ []) h3 h)
                (ap (λ l. record { parts = l; room = h3.room }) (with_itself h3.parts (place_of d (part.pane w)) y.0 at_h3))
                (one_left d old.parts who.Input h3 (part.pane w) (place_of d (part.pane w)) y.0 y.0 refl pane_there.reachable.there at_h3 refl
                (leaves_as (part.pane w) (meaning_of y.0) pane_there (ap (λ (t : State). slice_of t (part.pane w)) refused_later ∙ read d old.parts who.Input (want.Uses event) allowed (part.pane w) y.0 pane_there.reachable.there y.1)))

            refused_covers : (x : part.Part) → TouchesActive s later dv.activate x → IsAmong x (part.pane w ∷ [])
            refused_covers x touched = by (subst (λ o. TouchesActive s later o x) said touched)
              where
                by : TouchesPanes s later w x → IsAmong x (part.pane w ∷ [])
                by (u, is_pane, inl own) = inl (is_pane ∙ ap part.pane own)
                by (u, is_pane, inr (i, j, owns, other)) = absurd (other (ap (λ (t : State). owner_in t i j) refused_later))

          -- ---- the three cases

          ready_by : (o : Option ℕ) (m : Option Activation) → dv.activate ≡ o → IsActivation d old.parts is.known o m → IsToActivate d old.parts h3.parts m
          ready_by (Some w) (Some m) said (window, change, planned) = planned_ready w m said window change planned
          ready_by (Some w) None said refused = tt
          ready_by None (Some m) said never = absurd never
          ready_by None None said nothing = tt

          pub activation_ready : (b : Hand Part) → b ≡ old → IsToActivate d b.parts h3.parts made.activation
          activation_ready b copy = subst (λ (h : Hand Part). IsToActivate d h.parts h3.parts made.activation) (sym copy) (ready_by dv.activate made.activation refl is.activation)

          done_by : (o : Option ℕ) (m : Option Activation) (h4 : Hand Part) → dv.activate ≡ o → IsActivation d old.parts is.known o m → HasActivated d old.parts m h3 h4 → Activated h4
          done_by (Some w) (Some m) h4 said (window, change, planned) moved = planned_done w m said window change planned h4 moved
          done_by (Some w) None h4 said (fault, refused) moved =
              quiet_done (refused_later w said fault refused) (part.pane w ∷ []) (itself_left w said fault refused) (refused_covers w said fault refused) (λ among. ⊎_elim (λ same. absurd (cc)) (λ never. never) among) h4 moved
          done_by None (Some m) h4 said never moved = absurd never
          done_by None None h4 said nothing moved =
              quiet_done (later_is ∙ ap (activated (posted_state s dv)) said) [] (none_left d old.parts who.Input h3) (λ x touched. subst (λ o. TouchesActive s later o x) said touched) (λ never. never) h4 moved

          module _ (b h4 : Hand Part) (copy : b ≡ old) (moved : HasActivated d b.parts made.activation h3 h4) (where_desk : ℕ) (desk_spot : where_desk ≡ at_the_desk) where
            the : Activated h4
            the = done_by dv.activate made.activation h4 refl is.activation (subst (λ (h : Hand Part). HasActivated d h.parts made.activation h3 h4) copy moved)

            pub desk_in_hand : (p : Slice) × (part_at h4.parts where_desk ≡ Some (kinds.Desk p))
            desk_in_hand = (the.desk_now.0, ap (part_at h4.parts) desk_spot ∙ the.desk_now.1)

            pub deliver_done : (p v : Slice) → part_at h4.parts where_desk ≡ Some (kinds.Desk p) → v ≡ desk_with (under_in made.under) p → IsDone d who.Input old (hand_with h4 where_desk (kinds.Desk v))
            deliver_done p v at_p is_v =
                let last = the.finish p v (ap (part_at h4.parts) (sym desk_spot) ∙ at_p) is_v in
                let the_same : hand_with the.between at_the_desk (kinds.Desk v) ≡ hand_with h4 where_desk (kinds.Desk v) = sym last.0 ∙ ap (λ n. hand_with h4 n (kinds.Desk v)) (sym desk_spot) in
                let so_far : HasLeft d old.parts who.Input (posted_parts ++ the.panes) old the.between = both_left d old.parts who.Input posted_parts the.panes old h3 the.between posted_left the.left in
                let at_between : part_at the.between.parts at_the_desk ≡ Some (kinds.Desk (desk is.known)) = others_stay d old.parts who.Input the.panes h3 the.between part.desk tt the.no_desk the.left ∙ desk_kept in
                let desk_left : HasLeft d old.parts who.Input (part.desk ∷ []) the.between (hand_with the.between at_the_desk (kinds.Desk v)) = one_left d old.parts who.Input the.between part.desk at_the_desk (kinds.Desk (desk is.known)) (kinds.Desk v) refl tt at_between refl (leaves_as part.desk v desk_there last.1) in
                subst (λ (h : Hand Part). IsDone d who.Input old h) the_same
                (all_left d old.parts who.Input (want.Uses event) allowed old (hand_with the.between at_the_desk (kinds.Desk v)) ((posted_parts ++ the.panes) ++ part.desk ∷ []) refl
                (both_left d old.parts who.Input (posted_parts ++ the.panes) (part.desk ∷ []) old the.between (hand_with the.between at_the_desk (kinds.Desk v)) so_far desk_left)
                (λ x touched. covers x touched))
              where
                covers : (x : part.Part) → Touches s later (wants.uses event.now) x → IsAmong x ((posted_parts ++ the.panes) ++ part.desk ∷ [])
                covers x (inl same) = inl same
                covers x (inr touched) = by (subst (λ (z : Delivery). TouchesDelivered s later z x) delivery_is (event_touched s later event.now is.event x is.is touched))
                  where
                    in_posted : IsAmong x (post_parts dv.first ++ post_parts dv.second) → IsAmong x ((posted_parts ++ the.panes) ++ part.desk ∷ [])
                    in_posted among = in_front x (posted_parts ++ the.panes) (part.desk ∷ []) (in_front x posted_parts the.panes (inr among))

                    by : TouchesDelivered s later dv x → IsAmong x ((posted_parts ++ the.panes) ++ part.desk ∷ [])
                    by (inl is_desk) = behind x (posted_parts ++ the.panes) (part.desk ∷ []) (inl is_desk)
                    by (inr (inl one)) = in_posted (in_front x (post_parts dv.first) (post_parts dv.second) (posted_among dv.first x one))
                    by (inr (inr (inl two))) = in_posted (behind x (post_parts dv.first) (post_parts dv.second) (posted_among dv.second x two))
                    by (inr (inr (inr stirs))) = in_front x (posted_parts ++ the.panes) (part.desk ∷ []) (behind x posted_parts the.panes (the.covers x stirs))
