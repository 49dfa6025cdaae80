-- A twin whose oldest command changes its window: the desk decides, and which panes are needed.
use Rattle.std.proofs.Common.{◌≡◌, ℕ, ◌<◌, true, List, [], ◌∷◌, ◌++◌, length, map, Some, None, Result, Ok, ◌⊎◌, inl, inr, refl, sym, ap, ◌∙◌, subst}
use Rattle.std.specs.Prelude.{ℤ, ◌&&◌, nat_lt, option_and_then}
use Rattle.std.specs.Option.{option_map_or}
use Rattle.std.proofs.lemmas.Option.{same_Some}
use Rattle.be_facts.proofs.Lists.{element}
use Rattle.be_facts.proofs.Truths.{and_first, and_second}
use Rattle.be_command.specs.declared.Command.TheVariants as command
use Rattle.be_command.specs.Effects.{changes}
use Rattle.be_command.specs.Limits.{change_names, is_change, is_command, names_what_is}
use Rattle.be_desk.specs.Affected.{AreAffected, OwnsTheSame}
use Rattle.be_desk.specs.Changes.{Desk, desk_after}
use Rattle.be_desk.specs.Desks as desks
use Rattle.be_desk.specs.Desks.{IsPaired, IsTaken}
use Rattle.be_geom.specs.Numbers.{is_number}
use Rattle.be_geom.specs.declared.change.Change.{Change}
use Rattle.be_geom.specs.declared.change.Change.TheVariants.{Show, Hide, MoveTo, MoveBy, ResizeTo, Activate, Behind, Focus, Close}
use Rattle.be_geom.proofs.Numbered.{differs}
use Rattle.be_hall.specs.Hands.{meant, part_at}
use Rattle.be_hall.specs.Machine.{IsHeld}
use Rattle.be_link.specs.Queues.{numbered}
use Rattle.be_machine.specs.Activities.{activity_of}
use Rattle.be_machine.specs.Commands.{executed, executed_command, without_front}
use Rattle.be_machine.specs.declared.Act.TheVariants as act
use Rattle.be_machine.specs.declared.Entry.{Entry}
use Rattle.be_machine.specs.KeptLimits.{LinkedAreWithinLimits}
use Rattle.be_machine.specs.Legal.{want_act}
use Rattle.be_machine.specs.Pixels.{owner_in}
use Rattle.be_machine.specs.State.{State}
use Rattle.be_machine.specs.Step.{met, step}
use Rattle.be_machine.specs.Touched as part
use Rattle.be_machine.specs.Wants as wants
use Rattle.be_machine.specs.Wants.{want_of}
use Rattle.be_machine.specs.Windows.{outcome_by}
use Rattle.be_machine.proofs.Sizes.{IsAsLarge}
use Rattle.be_parts.specs.Kept.{Kept}
use Rattle.be_parts.specs.Parts.{meaning_of}
use Rattle.be_parts.specs.declared.part.Part as parts
use Rattle.be_parts.specs.declared.part.Part.TheVariants as kinds
use Rattle.be_rules.specs.Far.{ChangesHands, FarEffect, IsAltered, windows_behind, windows_or}
use Rattle.be_rules.specs.Found.{NeedsPart}
use Rattle.be_rules.specs.Places.{place_of}
use Rattle.be_rules.specs.Rules.{IsSound}
use Rattle.be_rules.specs.Slices.{Slice, desk, desk_in}
use Rattle.be_rules.specs.Sure.{IsAmong, Seen, effect_parts, in_hand, parts_by, port_for, seen_in}
use Rattle.be_rules.proofs.Cut.{owner_there}
use Rattle.be_rules.proofs.Far.{needs_altered, as_large, windows_changed}
use Rattle.be_rules.proofs.Lawfully.{whole}
use Rattle.be_rules.proofs.Spots.{changes_hands}
use Rattle.be_script.specs.Programs.{view_count}
use Rattle.be_script.specs.Script.{Declared}
use Rattle.be_stack.specs.declared.fault.ChangeFault.{ChangeFault}
use Rattle.be_stack.specs.Limits.{is_named_there, is_within_limits}
use Rattle.be_stack.specs.Owner.{owner_at}
use Rattle.be_stack.specs.Windows.{Windows}
use Rattle.be_twin.specs.declared.Outcome.{Outcome}
use Rattle.be_twin.specs.declared.Outcome.TheVariants.{Done}
use Rattle.be_desk.proofs.TakenLemmas.{taken_as}
use Rattle.be_asking.specs.Changing.{IsRefusedWith, first_missing}
use Rattle.be_asking.specs.Deeds.{IsAsked, MayAct}
use Rattle.be_asking.specs.Executing.{IsOldest}
use Rattle.be_asking.specs.Finding.{IsMissing, IsReachable}
use Rattle.be_asking.specs.declared.activity.Activity.TheVariants as who
use Rattle.be_asking.specs.declared.want.Want.TheVariants as want
use Rattle.be_asking.proofs.Asked.{fits, here, may, missing, own, reach, s, sound, wanted}
use Rattle.be_asking.proofs.ExecutesAnswered.{acts_by, front_now, link_held, oldest_in_hand, oldest_now, on_its_way}
use Rattle.be_asking.proofs.InHand.{desk_read, not_held}
use Rattle.be_asking.proofs.Missing.{among_named, has_all, lacks, named_among}
use Rattle.be_asking.proofs.UsesAnswered.{in_front}

-- ---- limits

change_within : (change : Change) → is_change change ≡ true → is_within_limits change ≡ true
change_within Show is = refl
change_within Hide is = refl
change_within (MoveTo corner) is = refl
change_within (MoveBy dx dy) is = is
change_within (ResizeTo width height) is = is
change_within Activate is = refl
change_within (Behind front) is = refl
change_within (Focus view) is = refl
change_within Close is = refl

change_named : (windows : Windows) (count views : ℕ) (change : Change) → length windows.windows ≡ count → change_names count views change ≡ true → is_named_there windows change ≡ true
change_named windows count views Show many is = refl
change_named windows count views Hide many is = refl
change_named windows count views (MoveTo corner) many is = refl
change_named windows count views (MoveBy dx dy) many is = refl
change_named windows count views (ResizeTo width height) many is = refl
change_named windows count views Activate many is = refl
change_named windows count views (Behind front) many is = ap (nat_lt front) many ∙ is
change_named windows count views (Focus view) many is = refl
change_named windows count views Close many is = refl

-- ---- lists of parts

at_end : (p : part.Part) (xs : List part.Part) → IsAmong p (xs ++ p ∷ [])
at_end p [] = inl refl
at_end p (x ∷ xs) = inr (at_end p xs)

split : (P : part.Part → Type 0) (xs : List part.Part) (y p : part.Part) → ((x : part.Part) → IsAmong x xs → P x) → P y → IsAmong p (xs ++ y ∷ []) → P p
split P [] y p front last (inl is) = subst P (sym is) last
split P [] y p front last (inr nobody) = absurd nobody
split P (x ∷ xs) y p front last (inl is) = front p (inl is)
split P (x ∷ xs) y p front last (inr later) = split P xs y p (λ z among. front z (inr among)) last later

-- ---- desks after a change

-- a window that owns a pixel before or after is there
owner_known : (before after : Windows) (u : ℕ) (x y : ℤ) → length after.windows ≡ length before.windows → (owner_at before x y ≡ Some u) ⊎ (owner_at after x y ≡ Some u) → u < length before.windows
owner_known before after u x y many (inl is) = owner_there before x y u is
owner_known before after u x y many (inr is) = subst (λ (k : ℕ). u < k) many (owner_there after x y u is)

pub altered_there : (before : Desk) (w : ℕ) (change : Change) (u : ℕ) → IsAltered before w change u → u < length before.windows.windows
altered_there before w change u other =
    let large : IsAsLarge before.windows (windows_behind before w change) = as_large before w change in
    let at = changes_hands before.windows (windows_behind before w change) large.width large.height u other in
    owner_known before.windows (windows_behind before w change) u at.0 at.1 large.windows at.2

-- ---- a change at the front of the link

module _ (d : Declared) (inhand : List (ℕ × parts.Part)) (a w : ℕ) (asked : IsAsked d inhand a (who.Twin w) (want.Executes w)) (n : ℕ) (change : Change)
    (oldest : IsOldest d inhand w n (command.Change change)) where
  abbrev held : List (ℕ × Slice)
  held = meant meaning_of inhand

  abbrev now : State
  now = s d inhand a _ _ asked

  abbrev so : IsSound d asked.fitting.0
  so = sound d inhand a _ _ asked

  abbrev beside : List part.Part
  beside = part.desk ∷ (port_for w change ++ part.pane w ∷ [])

  shape : (x : Seen) → x.oldest w ≡ Some (changes change) → parts_by x (wants.executes w) ≡ part.link w ∷ beside
  shape x is = ap (λ o. part.link w ∷ effect_parts w o) is

  told_now : parts_by (seen_in now) (wants.executes w) ≡ part.link w ∷ beside
  told_now = shape (seen_in now) (oldest_now d inhand a w asked n (command.Change change) oldest)

  told_in_hand : parts_by (in_hand d held) (wants.executes w) ≡ part.link w ∷ beside
  told_in_hand = shape (in_hand d held) (oldest_in_hand d inhand a w asked n (command.Change change) oldest)

  reach_beside : (x : part.Part) → IsAmong x beside → IsReachable d inhand x
  reach_beside x among = reach d inhand a _ _ asked x (subst (IsAmong x) (sym told_now) (inr among))

  needs_beside : (x : part.Part) (place : ℕ) → IsMissing d inhand x place → IsAmong x beside → NeedsPart d held a place
  needs_beside x place gone among = missing d inhand a _ _ asked x place gone (subst (IsAmong x) (sym told_in_hand) (inr among))

  own_pane : IsAmong (part.pane w) beside
  own_pane = inr (at_end (part.pane w) (port_for w change))

  pub reach_desk : IsReachable d inhand part.desk
  reach_desk = reach_beside part.desk (inl refl)

  pub needs_desk : (place : ℕ) → IsMissing d inhand part.desk place → NeedsPart d held a place
  needs_desk place gone = needs_beside part.desk place gone (inl refl)

  pub needs_port : (place : ℕ) → Some place ≡ first_missing d inhand (port_for w change) → NeedsPart d held a place
  needs_port place is =
      let lacking = lacks d inhand (port_for w change) place is in
      needs_beside lacking.0 place lacking.2 (inr (in_front lacking.0 (port_for w change) (part.pane w ∷ []) lacking.1))

  pub reach_pane : IsReachable d inhand (part.pane w)
  reach_pane = reach_beside (part.pane w) own_pane

  pub needs_pane : (place : ℕ) → IsMissing d inhand (part.pane w) place → NeedsPart d held a place
  needs_pane place gone = needs_beside (part.pane w) place gone own_pane

  many : length now.desk.windows.windows ≡ length d.windows
  many = (whole d asked.fitting.0 so).parts.windows

  asks_for_it : option_and_then (want_of d now) (activity_of d a) ≡ Some (wants.executes w)
  asks_for_it = ap (option_and_then (want_of d now)) asked.number ∙ wanted d inhand a _ _ asked

  -- it is executed, whatever comes of it
  pub acts_now : want_act d now (wants.executes w) ≡ Some (act.Exec n (outcome_by (desk_after now.desk w change)))
  acts_now =
      let pane = element now.panes w (subst (λ (k : ℕ). w < k) (sym (whole d asked.fitting.0 so).parts.panes) reach_pane.there) in
      acts_by d inhand a w asked n (command.Change change) oldest pane.0 pane.1

  -- ---- with the desk in hand

  module _ (slice : Slice) (known : Desk) (at_desk : part_at inhand (place_of d part.desk) ≡ Some (kinds.Desk slice)) (told : slice ≡ desk known) where
    desk_held : IsHeld held (place_of d part.desk)
    desk_held = here d inhand a _ _ asked part.desk (kinds.Desk slice) at_desk

    desk_is : now.desk ≡ known
    desk_is = same_Some now.desk known (desk_read d inhand asked.fitting.0 so asked.fitting.2 (kinds.Desk slice) at_desk ∙ ap desk_in told)

    allowed_now : LinkedAreWithinLimits → IsPaired now.desk → desks.IsAsked now.desk w change
    unfolding is_command names_what_is
    allowed_now law paired = by_way (on_its_way d inhand a w asked n (command.Change change) oldest law)
      where
        by_way : (((is_change change) && change_names (length d.windows) (view_count d w) change) ≡ true) ⊎ (command.Change change ≡ command.EndUpdate) → desks.IsAsked now.desk w change
        by_way (inl said) = record {
          paired = paired;
          there = subst (λ (k : ℕ). w < k) (sym many) reach_pane.there;
          named_there = change_named now.desk.windows (length d.windows) (view_count d w) change many (and_second (is_change change) _ said);
          within_limits = change_within change (and_first (is_change change) _ said);
        }
        by_way (inr ends) = absurd (cc)

    -- the desk may be asked
    pub allowed : LinkedAreWithinLimits → IsPaired known → desks.IsAsked known w change
    allowed law paired = subst (λ (k : Desk). desks.IsAsked k w change) desk_is (allowed_now law (subst IsPaired (sym desk_is) paired))

    module _ (port : None ≡ first_missing d inhand (port_for w change)) (kept : Kept) (at_pane : part_at inhand (place_of d (part.pane w)) ≡ Some (kinds.Pane kept)) where
      pane_held : IsHeld held (place_of d (part.pane w))
      pane_held = here d inhand a _ _ asked (part.pane w) (kinds.Pane kept) at_pane

      held_among : (x : part.Part) → IsAmong x (part.link w ∷ beside) → IsHeld held (place_of d x)
      held_among x (inl at) = subst (λ (p : part.Part). IsHeld held (place_of d p)) (sym at) (link_held d inhand a w asked n (command.Change change) oldest)
      held_among x (inr (inl at)) = subst (λ (p : part.Part). IsHeld held (place_of d p)) (sym at) desk_held
      held_among x (inr (inr among)) = split (λ (p : part.Part). IsHeld held (place_of d p)) (port_for w change) (part.pane w) x (has_all d inhand (port_for w change) port) pane_held among

      there : (x : part.Part) → IsAmong x (parts_by (seen_in now) (wants.executes w)) → IsHeld held (place_of d x)
      there x among = held_among x (subst (IsAmong x) told_now among)

      -- ---- the panes that the change alters

      -- the pane of a window that is altered, where it isn't in hand
      needs_altered_pane : (u place : ℕ) → IsAltered now.desk w change u → IsMissing d inhand (part.pane u) place → NeedsPart d held a place
      needs_altered_pane u place other gone =
          subst (NeedsPart d held a) (sym gone.0)
          (needs_altered d held asked.fitting.0 so (fits d inhand a _ _ asked) a w u (numbered (n, command.Change change)) change asked.number (own d inhand a _ _ asked) desk_held
          (link_held d inhand a w asked n (command.Change change) oldest) (wanted d inhand a _ _ asked) (front_now d inhand a w asked n (command.Change change) oldest) refl other
          (subst (λ (k : ℕ). u < k) many (altered_there now.desk w change u other)) (not_held inhand (place_of d (part.pane u)) (ap (part_at inhand) (sym gone.0) ∙ gone.1)))

      executed_windows : (e : Entry) → e.actor ≡ a → (step d now e).desk.windows ≡ windows_behind known w change
      unfolding step met executed
      executed_windows e by =
          ap (λ (k : ℕ). (option_map_or (met d now) (option_and_then (want_of d now) (activity_of d k)) now).desk.windows) by
          ∙ ap (λ o. (option_map_or (met d now) o now).desk.windows) asks_for_it
          ∙ ap (λ o. (option_map_or (executed_command d now w) o now).desk.windows) (front_now d inhand a w asked n (command.Change change) oldest)
          ∙ windows_changed (without_front now w) w change
          ∙ ap (λ (k : Desk). windows_behind k w change) desk_is

      -- a pane of which a pixel changes hands is one of those
      is_altered : (e : Entry) → e.actor ≡ a → (p : part.Part) (hands : ChangesHands now (step d now e) p) → IsAltered known w change hands.0
      is_altered e by p hands same =
          let u : ℕ = hands.0 in
          let x : ℤ = hands.2 in
          let y : ℤ = hands.3 in
          differs u (owner_in now x y) (owner_in (step d now e) x y) hands.4 hands.5
          (ap (λ (k : Desk). is_number u (owner_at k.windows x y)) desk_is ∙ same x y ∙ ap (λ (k : Windows). is_number u (owner_at k x y)) (sym (executed_windows e by)))

      executes_with : (outcome : Outcome) → outcome_by (desk_after known w change) ≡ outcome → ((u : ℕ) → IsAltered known w change u → IsHeld held (place_of d (part.pane u))) → MayAct d held a (act.Exec n outcome)
      executes_with outcome comes altered =
          let e : Entry = record { actor = a; act = act.Exec n outcome } in
          may d inhand a _ _ asked (act.Exec n outcome)
          (λ p far. far_held p (subst (λ o. FarEffect now (step d now e) o p) (oldest_now d inhand a w asked n (command.Change change) oldest) far))
          there
          (acts_now ∙ ap (λ (k : Desk). Some (act.Exec n (outcome_by (desk_after k w change)))) desk_is ∙ ap (λ (o : Outcome). Some (act.Exec n o)) comes)
        where
          far_held : (p : part.Part) → ChangesHands now (step d now (record { actor = a; act = act.Exec n outcome })) p → IsHeld held (place_of d p)
          far_held p hands =
              subst (λ (x : part.Part). IsHeld held (place_of d x)) (sym hands.1) (altered hands.0 (is_altered (record { actor = a; act = act.Exec n outcome }) refl p hands))

      -- the desk refuses it
      pub refuses : (outcome : Outcome) → IsRefusedWith (desk_after known w change) outcome → MayAct d held a (act.Exec n outcome)
      refuses outcome (fault, refused, comes) =
          executes_with outcome (ap outcome_by refused ∙ comes)
          (λ u other. absurd (other (subst (λ (r : Result Desk ChangeFault). OwnsTheSame known.windows (windows_or known.windows r) u) (sym refused) (λ x y. refl))))

      -- the desk takes it, and names the windows that are altered
      module _ (names : List ℕ) (taken : IsTaken (desk_after known w change)) (named : (after : Desk) → desk_after known w change ≡ Ok after → AreAffected known.windows after.windows w names) where
        abbrev after : (k : Desk) × (desk_after known w change ≡ Ok k)
        after = taken_as (desk_after known w change) taken

        affected : AreAffected known.windows (windows_behind known w change) w names
        affected = subst (λ (r : Result Desk ChangeFault). AreAffected known.windows (windows_or known.windows r) w names) (sym after.1) (named after.0 after.1)

        by_name : (u place : ℕ) → (u ≡ w) ⊎ IsAltered known w change u → IsMissing d inhand (part.pane u) place → NeedsPart d held a place
        by_name u place (inl same) gone =
            absurd (not_held inhand (place_of d (part.pane u)) (ap (part_at inhand) (sym gone.0) ∙ gone.1) (subst (λ (v : ℕ). IsHeld held (place_of d (part.pane v))) (sym same) pane_held))
        by_name u place (inr other) gone = needs_altered_pane u place (subst (λ (k : Desk). IsAltered k w change u) (sym desk_is) other) gone

        pub needs_named : (place : ℕ) → Some place ≡ first_missing d inhand (map part.pane names) → NeedsPart d held a place
        needs_named place is =
            let lacking = lacks d inhand (map part.pane names) place is in
            let name = named_among names lacking.0 lacking.1 in
            by_name name.0 place ((affected.named name.0).0 name.2) (subst (λ (x : part.Part). IsMissing d inhand x place) name.1 lacking.2)

        pub executes_taken : None ≡ first_missing d inhand (map part.pane names) → MayAct d held a (act.Exec n Done)
        executes_taken is =
            executes_with Done (ap outcome_by after.1)
            (λ u other. has_all d inhand (map part.pane names) is (part.pane u) (among_named names u ((affected.named u).1 (inr other))))
