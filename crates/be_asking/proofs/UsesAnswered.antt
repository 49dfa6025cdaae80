-- What the input is answered.
use Rattle.std.proofs.Common.{◌≡◌, ℕ, ◌+◌, ◌<◌, ◌≤◌, Bool, true, false, List, [], ◌∷◌, ◌++◌, length, Option, Some, None, inl, inr, ⊎_elim, refl, sym, ap, ◌∙◌, subst}
use Rattle.std.specs.Prelude.{IfSome, option_map, option_and_then, if◌then◌else◌}
use Rattle.std.proofs.lemmas.Option.{same_Some}
use Rattle.be_desk.specs.Changes.{Desk}
use Rattle.be_desk.specs.Desks.{desk_of}
use Rattle.be_desk.specs.declared.desk.Desk as code
use Rattle.be_geom.specs.declared.change.Change.TheVariants.{Activate}
use Rattle.be_hall.specs.Hands.{meant, part_at}
use Rattle.be_hall.specs.Machine.{Fits, IsHeld}
use Rattle.be_input.specs.declared.Delivery as declared
use Rattle.be_input.specs.declared.Event.{Event}
use Rattle.be_input.specs.declared.Event.TheVariants as event
use Rattle.be_input.specs.declared.Post as sent
use Rattle.be_input.specs.Deliveries.{Delivery, Post, delivered}
use Rattle.be_input.specs.Seen.{seen_delivery, seen_post}
use Rattle.be_port.specs.declared.Posted.{Posted}
use Rattle.be_script.specs.Script.{Declared}
use Rattle.be_script.specs.declared.InputLine.{InputLine}
use Rattle.be_script.specs.declared.InputLine.TheVariants as line
use Rattle.be_machine.specs.Activities as machine
use Rattle.be_machine.specs.Activities.{activity_of}
use Rattle.be_machine.specs.declared.Act.{Act}
use Rattle.be_machine.specs.declared.Act.TheVariants as act
use Rattle.be_machine.specs.declared.Entry.{Entry}
use Rattle.be_machine.specs.Input.{after_act, delivery_act, delivery_of, event_act}
use Rattle.be_machine.specs.Laws.{IsWantOf}
use Rattle.be_machine.specs.Legal.{legal_act, want_act}
use Rattle.be_machine.specs.Program.{has_ended}
use Rattle.be_machine.specs.State.{State}
use Rattle.be_machine.specs.Step.{step}
use Rattle.be_machine.specs.Touched as part
use Rattle.be_machine.specs.Wants.{uses, want_of}
use Rattle.be_parts.specs.Kept.{Kept}
use Rattle.be_parts.specs.Parts.{meaning_of}
use Rattle.be_parts.specs.declared.part.Part as parts
use Rattle.be_parts.specs.declared.part.Part.TheVariants as kinds
use Rattle.be_rules.specs.Far.{IsAltered, IsFar, event_in}
use Rattle.be_rules.specs.Found.{CannotAct, NeedsPart}
use Rattle.be_rules.specs.Places.{place_of}
use Rattle.be_rules.specs.Rules.{IsSound}
use Rattle.be_rules.specs.Slices as slices
use Rattle.be_rules.specs.Slices.{Slice, desk_in, input_in, state_of}
use Rattle.be_rules.specs.Sure.{IsAmong, Seen, delivery_parts, event_parts, in_hand, maybe, parts_by, post_parts, seen_in}
use Rattle.be_rules.proofs.Far.{needs_activated}
use Rattle.be_rules.proofs.Lawfully.{back, state, whole}
use Rattle.be_asking.specs.Deeds.{IsAsked, MayAct}
use Rattle.be_asking.specs.declared.activity.Activity.{Activity}
use Rattle.be_asking.specs.declared.want.Want.{Want}
use Rattle.be_asking.specs.Finding.{IsInHand, IsMissing, IsReachable}
use Rattle.be_asking.specs.Stopping.{Tells}
use Rattle.be_asking.specs.Using.{ArePostable, HasActive, HasNoPort, HasPort, IsFirst, IsNextAfter, IsNextEvent, IsSecond, LacksActive, LacksStirred}
use Rattle.be_asking.proofs.Asked.{fits, here, may, missing, own, reach, s, sound, wanted}
use Rattle.be_asking.proofs.InHand.{desk_read, is_held, not_held}
use Rattle.be_asking.proofs.FarEvents.{IsStirredPane, far_stirred}
use Rattle.be_asking.proofs.SeenInHand.{desk_found}
use Rattle.be_asking.proofs.Small.{small, small_events}
use Rattle.be_asking.proofs.StopAnswered.{events_are}

-- ---- how many events were used

-- at most as many as entries were made
pub few_events : (d : Declared) (inhand : List (ℕ × parts.Part)) (a : ℕ) (who : Activity) (want : Want) → IsAsked d inhand a who want → (y : Kept) → part_at inhand (place_of d part.input) ≡ Some (kinds.Input y) → (n : ℕ) → option_map (λ (known : ℕ × Bool). known.0) (input_in y.slice) ≡ Some n → n ≤ 4611686018427387904
few_events d inhand a who want asked y there n used = small_events 4611686018427387904 y.slice n (small 4611686018427387904 inhand (place_of d part.input) (kinds.Input y) asked.small there) used

-- ---- what is legal

module _ (d : Declared) (t : State) (a : ℕ) (it : InputLine) (number : activity_of d a ≡ Some machine.input) (wants : want_of d t machine.input ≡ Some (uses it)) where
  pub use_legal : legal_act d t a ≡ event_act d t it
  unfolding legal_act want_act
  use_legal =
      ap (λ o. option_and_then (want_act d t) (option_and_then (want_of d t) o)) number
      ∙ ap (option_and_then (want_act d t)) wants

event_happens : (d : Declared) (t : State) (it : InputLine) (ev : Event) → event_in it ≡ Some ev → event_act d t it ≡ Some (delivery_act t (delivery_of t ev))
event_happens d t (line.Press at) ev e = ap (λ v. Some (delivery_act t (delivery_of t v))) (same_Some (event.Press at) ev e)
event_happens d t (line.Release at) ev e = ap (λ v. Some (delivery_act t (delivery_of t v))) (same_Some (event.Release at) ev e)
event_happens d t (line.Move at) ev e = ap (λ v. Some (delivery_act t (delivery_of t v))) (same_Some (event.Move at) ev e)
event_happens d t (line.Key key) ev e = ap (λ v. Some (delivery_act t (delivery_of t v))) (same_Some (event.Key key) ev e)
event_happens d t (line.After m) ev e = absurd (cc)

-- ---- which parts

event_parts_are : (it : InputLine) (ev : Event) → event_in it ≡ Some ev → (x : Seen) → event_parts x it ≡ delivery_parts (x.delivery ev)
event_parts_are (line.Press at) ev e x = ap (λ v. delivery_parts (x.delivery v)) (same_Some (event.Press at) ev e)
event_parts_are (line.Release at) ev e x = ap (λ v. delivery_parts (x.delivery v)) (same_Some (event.Release at) ev e)
event_parts_are (line.Move at) ev e x = ap (λ v. delivery_parts (x.delivery v)) (same_Some (event.Move at) ev e)
event_parts_are (line.Key key) ev e x = ap (λ v. delivery_parts (x.delivery v)) (same_Some (event.Key key) ev e)
event_parts_are (line.After m) ev e x = absurd (cc)

desk_first : (o : Option Delivery) → IsAmong part.desk (delivery_parts o)
desk_first (Some x) = inl refl
desk_first None = inl refl

pub in_front : (p : part.Part) (xs ys : List part.Part) → IsAmong p xs → IsAmong p (xs ++ ys)
in_front p [] ys h = absurd h
in_front p (x ∷ xs) ys (inl e) = inl e
in_front p (x ∷ xs) ys (inr h) = inr (in_front p xs ys h)

pub behind : (p : part.Part) (xs ys : List part.Part) → IsAmong p ys → IsAmong p (xs ++ ys)
behind p [] ys h = h
behind p (x ∷ xs) ys h = inr (behind p xs ys h)

module _ (x : Delivery) where
  first_among : (post : Post) → x.first ≡ Some post → IsAmong (part.port post.window) (delivery_parts (Some x))
  first_among post e = inr (in_front _ (post_parts x.first) _ (subst (λ o. IsAmong (part.port post.window) (post_parts o)) (sym e) (inl refl)))

  second_among : (post : Post) → x.second ≡ Some post → IsAmong (part.port post.window) (delivery_parts (Some x))
  second_among post e = inr (behind _ (post_parts x.first) _ (in_front _ (post_parts x.second) _ (subst (λ o. IsAmong (part.port post.window) (post_parts o)) (sym e) (inl refl))))

  active_among : (w : ℕ) → x.activate ≡ Some w → IsAmong (part.pane w) (delivery_parts (Some x))
  active_among w e = inr (behind _ (post_parts x.first) _ (behind _ (post_parts x.second) _ (subst (λ o. IsAmong (part.pane w) (maybe part.pane o)) (sym e) (inl refl))))

-- ---- an event of mouse or key

module _ (d : Declared) (inhand : List (ℕ × parts.Part)) (a : ℕ) (ev : Event) (next : IsNextEvent d inhand a ev) where
  abbrev now : State
  now = s d inhand a _ _ next.asked

  abbrev held : List (ℕ × Slice)
  held = meant meaning_of inhand

  among : (x : Seen) (p : part.Part) → IsAmong p (delivery_parts (x.delivery ev)) → IsAmong p (parts_by x (uses next.line.now))
  among x p h = inr (subst (IsAmong p) (sym (event_parts_are next.line.now ev next.is x)) h)

  pub event_reach_input : IsReachable d inhand part.input
  event_reach_input = reach d inhand a _ _ next.asked part.input (inl refl)

  pub event_reach_desk : IsReachable d inhand part.desk
  event_reach_desk = reach d inhand a _ _ next.asked part.desk (among (seen_in now) part.desk (desk_first ((seen_in now).delivery ev)))

  pub event_needs_input : (place : ℕ) → IsMissing d inhand part.input place → NeedsPart d held a place
  event_needs_input place gone = missing d inhand a _ _ next.asked part.input place gone (inl refl)

  pub event_needs_desk : (place : ℕ) → IsMissing d inhand part.desk place → NeedsPart d held a place
  event_needs_desk place gone = missing d inhand a _ _ next.asked part.desk place gone (among (in_hand d held) part.desk (desk_first ((in_hand d held).delivery ev)))

  module _ (k : Slice) (at : part_at inhand (place_of d part.desk) ≡ Some (kinds.Desk k)) (known : code.Desk) (means : k ≡ slices.desk (desk_of known)) (delivery : declared.Delivery) (made : seen_delivery delivery ≡ delivered known.stack known.pointing ev) where
    abbrev x : Delivery
    x = seen_delivery delivery

    -- the desk of each list is the one in hand
    desk_is : (all : List Slice) (sound : IsSound d all) → Fits all held → (state d all sound).desk ≡ desk_of known
    desk_is all sound fits = same_Some _ (desk_of known) (desk_read d inhand all sound fits (kinds.Desk k) at ∙ ap desk_in means)

    delivery_is : (all : List Slice) (sound : IsSound d all) → Fits all held → delivery_of (state d all sound) ev ≡ x
    delivery_is all sound fits = ap (λ (desk : Desk). delivered desk.windows desk.pointing ev) (desk_is all sound fits) ∙ sym made

    abbrev delivery_now : delivery_of now ev ≡ x
    delivery_now = delivery_is next.asked.fitting.0 (sound d inhand a _ _ next.asked) (fits d inhand a _ _ next.asked)

    in_state : (p : part.Part) → IsAmong p (delivery_parts (Some x)) → IsAmong p (parts_by (seen_in now) (uses next.line.now))
    in_state p h = among (seen_in now) p (subst (λ y. IsAmong p (delivery_parts (Some y))) (sym delivery_now) h)

    told_in_hand : (in_hand d held).delivery ev ≡ Some x
    told_in_hand =
        ap (option_map (λ (desk : Desk). delivered desk.windows desk.pointing ev)) (desk_found d inhand next.asked.fitting.0 (sound d inhand a _ _ next.asked) (fits d inhand a _ _ next.asked) (kinds.Desk k) (desk_of known) at (ap desk_in means))
        ∙ ap (λ y. Some y) (sym made)

    in_parts : (p : part.Part) → IsAmong p (delivery_parts (Some x)) → IsAmong p (parts_by (in_hand d held) (uses next.line.now))
    in_parts p h = among (in_hand d held) p (subst (λ o. IsAmong p (delivery_parts o)) (sym told_in_hand) h)

    pub many_windows : length known.stack.windows ≡ length d.windows
    many_windows =
        let so : IsSound d next.asked.fitting.0 = sound d inhand a _ _ next.asked in
        ap (λ (desk : Desk). length desk.windows.windows) (sym (desk_is next.asked.fitting.0 so (fits d inhand a _ _ next.asked))) ∙ (whole d next.asked.fitting.0 so).parts.windows

    -- the ports of the messages

    postable : (o : Option sent.Post) → ((post : Post) → option_map seen_post o ≡ Some post → IsAmong (part.port post.window) (delivery_parts (Some x))) → ArePostable d inhand o
    postable (Some post) h = record { port = reach d inhand a _ _ next.asked (part.port post.window) (in_state (part.port post.window) (h (seen_post post) refl)); small = next.asked.small }
    postable None h = tt

    pub first_postable : ArePostable d inhand delivery.first
    first_postable = postable delivery.first (first_among x)

    pub second_postable : ArePostable d inhand delivery.second
    second_postable = postable delivery.second (second_among x)

    no_port : (o : Option sent.Post) → ((post : Post) → option_map seen_post o ≡ Some post → IsAmong (part.port post.window) (delivery_parts (Some x))) → (place : ℕ) → HasNoPort d inhand o place → NeedsPart d held a place
    no_port (Some post) h place gone = missing d inhand a _ _ next.asked (part.port post.window) place gone (in_parts (part.port post.window) (h (seen_post post) refl))
    no_port None h place gone = absurd gone

    pub needs_first : (place : ℕ) → HasNoPort d inhand delivery.first place → NeedsPart d held a place
    needs_first = no_port delivery.first (first_among x)

    pub needs_second : (place : ℕ) → HasNoPort d inhand delivery.second place → NeedsPart d held a place
    needs_second = no_port delivery.second (second_among x)

    -- the panes

    module _ (w : ℕ) (active : delivery.activate ≡ Some w) where
      active_there : w < length d.windows
      active_there = let r : IsReachable d inhand (part.pane w) = reach d inhand a _ _ next.asked (part.pane w) (in_state (part.pane w) (active_among x w active)) in r.there

      needs_stirred : (place : ℕ) → LacksStirred d inhand (desk_of known) w place → NeedsPart d held a place
      needs_stirred place lacks = ⊎_elim
          (λ same. missing d inhand a _ _ next.asked (part.pane lacks.window) place lacks.missing (in_parts (part.pane lacks.window) (subst (λ u. IsAmong (part.pane u) (delivery_parts (Some x))) (sym same) (active_among x w active))))
          (λ altered. subst (NeedsPart d held a) (sym lacks.missing.0)
          (needs_activated d held next.asked.fitting.0 (sound d inhand a _ _ next.asked) (fits d inhand a _ _ next.asked) a w lacks.window next.line.now ev next.is next.asked.number (own d inhand a _ _ next.asked)
          (here d inhand a _ _ next.asked part.desk (kinds.Desk k) at) (wanted d inhand a _ _ next.asked) (ap (λ (y : Delivery). y.activate) delivery_now ∙ active)
          (subst (λ (desk : Desk). IsAltered desk w Activate lacks.window) (sym (desk_is next.asked.fitting.0 (sound d inhand a _ _ next.asked) (fits d inhand a _ _ next.asked))) altered)
          lacks.below (not_held inhand (place_of d (part.pane lacks.window)) (ap (part_at inhand) (sym lacks.missing.0) ∙ lacks.missing.1))))
          lacks.stirred

    active_by : (o : Option ℕ) → delivery.activate ≡ o → IfSome o (λ w. w < length d.windows)
    active_by (Some w) is = active_there w is
    active_by None is = tt

    pub active_is_there : IfSome delivery.activate (λ w. w < length d.windows)
    active_is_there = active_by delivery.activate refl

    needs_by_active : (o : Option ℕ) → delivery.activate ≡ o → (place : ℕ) → LacksActive d inhand (desk_of known) o place → NeedsPart d held a place
    needs_by_active (Some w) is place lacks = needs_stirred w is place lacks
    needs_by_active None is place lacks = absurd lacks

    pub needs_active : (place : ℕ) → LacksActive d inhand (desk_of known) delivery.activate place → NeedsPart d held a place
    needs_active = needs_by_active delivery.activate refl

    -- what happens

    pub event_acts : (y : Kept) → part_at inhand (place_of d part.input) ≡ Some (kinds.Input y) → (n : ℕ) → option_map (λ (known : ℕ × Bool). known.0) (input_in y.slice) ≡ Some n
        → (first second : Option (ℕ × Posted)) → IsFirst d inhand x first → IsSecond d inhand x second → want_act d now (uses next.line.now) ≡ Some (act.Event (n + 1) first second)
    unfolding want_act
    event_acts y there n used first second one two =
        let all : List Slice = next.asked.fitting.0 in
        let so : IsSound d all = sound d inhand a _ _ next.asked in
        let fit : Fits all held = fits d inhand a _ _ next.asked in
        event_happens d now next.line.now ev next.is
        ∙ ap (λ z. Some (delivery_act now z)) delivery_now
        ∙ ap (λ t. Some (delivery_act t x)) (sym (back d all so))
        ∙ (λ i. Some (act.Event (events_are d inhand (kinds.Input y) there all so fit n used i + 1) (one all so fit i) (two all so fit i)))

    -- all that it touches is in hand

    held_at : (p : part.Part) → IsInHand d inhand p → IsHeld held (place_of d p)
    held_at p (y, there) = is_held inhand (place_of d p) y there

    port_held : (o : Option sent.Post) (p : part.Part) → HasPort d inhand o → IsAmong p (post_parts (option_map seen_post o)) → IsHeld held (place_of d p)
    port_held (Some post) p has (inl is) = subst (λ z. IsHeld held (place_of d z)) (sym is) (held_at (part.port post.window) has)
    port_held (Some post) p has (inr nobody) = absurd nobody
    port_held None p has nobody = absurd nobody

    pane_held : (o : Option ℕ) (p : part.Part) → HasActive d inhand (desk_of known) o → IsAmong p (maybe part.pane o) → IsHeld held (place_of d p)
    pane_held (Some w) p has (inl is) = subst (λ z. IsHeld held (place_of d z)) (sym is) (held_at (part.pane w) (has w (inl refl)))
    pane_held (Some w) p has (inr nobody) = absurd nobody
    pane_held None p has nobody = absurd nobody

    module _ (input_there : IsInHand d inhand part.input) (first : HasPort d inhand delivery.first) (second : HasPort d inhand delivery.second) (panes : HasActive d inhand (desk_of known) delivery.activate) where
      delivery_held : (p : part.Part) → IsAmong p (delivery_parts (Some x)) → IsHeld held (place_of d p)
      delivery_held p (inl is) = subst (λ z. IsHeld held (place_of d z)) (sym is) (here d inhand a _ _ next.asked part.desk (kinds.Desk k) at)
      delivery_held p (inr more) =
          either p (post_parts x.first) _ (port_held delivery.first p first)
          (either p (post_parts x.second) _ (port_held delivery.second p second) (pane_held delivery.activate p panes)) more
        where
          either : (p : part.Part) (xs ys : List part.Part) → (IsAmong p xs → IsHeld held (place_of d p)) → (IsAmong p ys → IsHeld held (place_of d p)) → IsAmong p (xs ++ ys) → IsHeld held (place_of d p)
          either p [] ys f g h = g h
          either p (z ∷ zs) ys f g (inl e) = f (inl e)
          either p (z ∷ zs) ys f g (inr h) = either p zs ys (λ j. f (inr j)) g h

      event_held : (p : part.Part) → IsAmong p (parts_by (seen_in now) (uses next.line.now)) → IsHeld held (place_of d p)
      event_held p (inl is) = subst (λ z. IsHeld held (place_of d z)) (sym is) (held_at part.input input_there)
      event_held p (inr more) = delivery_held p (subst (λ y. IsAmong p (delivery_parts (Some y))) delivery_now (subst (IsAmong p) (event_parts_are next.line.now ev next.is (seen_in now)) more))

      module _ (made_act : Act) where
        abbrev e : Entry
        e = record { actor = a; act = made_act }

        wants_it : IsWantOf d now e (uses next.line.now)
        wants_it = ap (option_and_then (want_of d now)) next.asked.number ∙ wanted d inhand a _ _ next.asked

        far_held : (p : part.Part) → IsFar now (step d now e) (uses next.line.now) p → IsHeld held (place_of d p)
        far_held p far =
            let all : List Slice = next.asked.fitting.0 in
            let stirred : IsStirredPane now ev p = far_stirred d now e next.line.now ev next.is wants_it p far in
            let active : delivery.activate ≡ Some stirred.active = sym (ap (λ (y : Delivery). y.activate) delivery_now) ∙ stirred.activates in
            let has : HasActive d inhand (desk_of known) (Some stirred.active) = subst (HasActive d inhand (desk_of known)) active panes in
            let altered : IsAltered (desk_of known) stirred.active Activate stirred.window = subst (λ (desk : Desk). IsAltered desk stirred.active Activate stirred.window) (desk_is all (sound d inhand a _ _ next.asked) (fits d inhand a _ _ next.asked)) stirred.altered in
            subst (λ z. IsHeld held (place_of d z)) (sym stirred.pane_is) (held_at (part.pane stirred.window) (has stirred.window (inr altered)))

        pub happens : want_act d now (uses next.line.now) ≡ Some made_act → MayAct d held a made_act
        happens acts = may d inhand a _ _ next.asked made_act far_held event_held acts

-- ---- a line that waits for an application's end

module _ (d : Declared) (inhand : List (ℕ × parts.Part)) (a m : ℕ) (next : IsNextAfter d inhand a m) where
  abbrev at_end : State
  at_end = s d inhand a _ _ next.asked

  cell_among : (x : Seen) → IsAmong (part.cell m) (parts_by x (uses next.line.now))
  cell_among x = subst (λ it. IsAmong (part.cell m) (parts_by x (uses it))) (sym next.is) (inr (inl refl))

  pub after_reach_input : IsReachable d inhand part.input
  after_reach_input = reach d inhand a _ _ next.asked part.input (inl refl)

  pub after_needs_input : (place : ℕ) → IsMissing d inhand part.input place → NeedsPart d (meant meaning_of inhand) a place
  after_needs_input place gone = missing d inhand a _ _ next.asked part.input place gone (inl refl)

  pub after_reach_cell : IsReachable d inhand (part.cell m)
  after_reach_cell = reach d inhand a _ _ next.asked (part.cell m) (cell_among (seen_in at_end))

  pub after_needs_cell : (place : ℕ) → IsMissing d inhand (part.cell m) place → NeedsPart d (meant meaning_of inhand) a place
  after_needs_cell place gone = missing d inhand a _ _ next.asked (part.cell m) place gone (cell_among (in_hand d (meant meaning_of inhand)))

  after_legal : (all : List Slice) → IsSound d all → Fits all (meant meaning_of inhand) → legal_act d (state_of d all) a ≡ after_act d (state_of d all) m
  after_legal all sound fits =
      use_legal d (state_of d all) a next.line.now next.asked.number (next.asked.wanted all sound fits).0
      ∙ ap (event_act d (state_of d all)) next.is

  module _ (y : Kept) (there : part_at inhand (place_of d part.input) ≡ Some (kinds.Input y)) (n : ℕ) (used : option_map (λ (known : ℕ × Bool). known.0) (input_in y.slice) ≡ Some n) (ended : Tells d inhand (λ t. has_ended d t m) true) where
    after_acts : want_act d at_end (uses next.line.now) ≡ Some (act.Event (n + 1) None None)
    unfolding want_act
    after_acts =
        let all : List Slice = next.asked.fitting.0 in
        let so : IsSound d all = sound d inhand a _ _ next.asked in
        let fit : Fits all (meant meaning_of inhand) = fits d inhand a _ _ next.asked in
        ap (event_act d at_end) next.is
        ∙ ap (λ t. after_act d t m) (sym (back d all so))
        ∙ (λ i. if ended all so fit i then Some (act.Event (events_are d inhand (kinds.Input y) there all so fit n used i + 1) None None) else None)

    pub goes_on : IsInHand d inhand (part.cell m) → MayAct d (meant meaning_of inhand) a (act.Event (n + 1) None None)
    goes_on cell =
        may d inhand a _ _ next.asked (act.Event (n + 1) None None)
        (λ p far. absurd (subst (λ it. IsFar at_end (step d at_end (record { actor = a; act = act.Event (n + 1) None None })) (uses it) p) next.is far))
        (λ p among. held_by p (subst (λ it. IsAmong p (parts_by (seen_in at_end) (uses it))) next.is among)) after_acts
      where
        held_by : (p : part.Part) → IsAmong p (part.input ∷ part.cell m ∷ []) → IsHeld (meant meaning_of inhand) (place_of d p)
        held_by p (inl is) = subst (λ z. IsHeld (meant meaning_of inhand) (place_of d z)) (sym is) (here d inhand a _ _ next.asked part.input (kinds.Input y) there)
        held_by p (inr (inl is)) = subst (λ z. IsHeld (meant meaning_of inhand) (place_of d z)) (sym is) (is_held inhand (place_of d (part.cell m)) cell.0 cell.1)
        held_by p (inr (inr nobody)) = absurd nobody

  pub waits_on : Tells d inhand (λ t. has_ended d t m) false → CannotAct d (meant meaning_of inhand) a
  waits_on ended all sound fits =
      after_legal all sound fits
      ∙ ap (λ b. if b then Some (act.Event ((state_of d all).events + 1) None None) else None) (ended all sound fits)
