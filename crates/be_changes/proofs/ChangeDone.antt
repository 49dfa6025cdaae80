-- A planned change of a window, executed as a step.
use Rattle.std.proofs.Common.{◌≡◌, ℕ, ◌<◌, true, List, [], ◌∷◌, ◌++◌, map, Option, Some, None, Ok, inl, inr, refl, sym, ap, ◌∙◌, subst, ⊎_elim}
use Rattle.std.specs.Prelude.{is_some, option_map, option_and_then, slice_get}
use Rattle.std.proofs.lemmas.Option.{same_Some}
use Rattle.be_asking.proofs.ExecutesAnswered.{front_now, oldest_now}
use Rattle.be_asking.specs.declared.activity.Activity.TheVariants as who
use Rattle.be_asking.specs.declared.want.Want.TheVariants as want
use Rattle.be_changes.proofs.ChangeTold.{desk_changed, executed_is, links_executed, ports_changed, same_ok, shown_executed}
use Rattle.be_changes.proofs.MadeLists.{all_left, both_left, one_left, others_stay}
use Rattle.be_changes.proofs.PartLists.{among_either, no_pane, port_closes, touched_port}
use Rattle.be_changes.proofs.PlannedPanes.{after_desk, desk_is as desk_known, leaves_as as leaves_known, panes_ready as panes_of_plan, stirred_made, told_later as told_known}
use Rattle.be_changes.specs.Left.{HasLeft}
use Rattle.be_changes.specs.Panes.{PanesAreToChange, pane_places}
use Rattle.be_changes.specs.Planned.{IsNextChange, IsPlannedIn}
use Rattle.be_changes.specs.Ports.{AreToClose, IsToClose}
use Rattle.be_command.specs.Effects.{Effect, at_view, changes, effect_of, ends_update}
use Rattle.be_command.specs.declared.Command.{Command}
use Rattle.be_command.specs.declared.Command.TheVariants as command
use Rattle.be_desk.specs.Changes.{Desk, desk_after}
use Rattle.be_desk.specs.Plans.{Planned}
use Rattle.be_geom.specs.declared.change.Change.{Change}
use Rattle.be_geom.specs.declared.change.Change.TheVariants.{Close}
use Rattle.be_hall.specs.Hands.{Hand, part_at}
use Rattle.be_link.specs.Queues.{Numbered, numbered, shortened}
use Rattle.be_machine.proofs.Lists as lists
use Rattle.be_machine.specs.Commands.{executed, without_front}
use Rattle.be_machine.specs.State.{State}
use Rattle.be_machine.specs.Step.{met}
use Rattle.be_machine.specs.Touched as part
use Rattle.be_machine.specs.Touched.{Touches, TouchesFor, TouchesOldest, TouchesPanes}
use Rattle.be_machine.specs.Wants as wants
use Rattle.be_machine.specs.Windows.{changed, ports_after}
use Rattle.be_parts.specs.Desks.{IsChangedBy, IsPlanFor}
use Rattle.be_parts.specs.Effects.{link_with}
use Rattle.be_parts.specs.Kinds.{kind_of, of_port}
use Rattle.be_parts.specs.Links.{front_of}
use Rattle.be_parts.specs.Parts.{hand_with, meaning_of}
use Rattle.be_parts.specs.declared.part.Part.{Part}
use Rattle.be_parts.specs.declared.part.Part.TheVariants as kinds
use Rattle.be_port.specs.Ports.{closed_port}
use Rattle.be_rules.specs.Far.{windows_behind}
use Rattle.be_rules.specs.Places.{place_of}
use Rattle.be_rules.specs.Slices.{Slice, desk, desk_in, link, pane, port, shown_of, slice_of}
use Rattle.be_rules.specs.Sure.{IsAmong, effect_parts, port_for, seen_in}
use Rattle.be_script.specs.Script.{Declared}
use Rattle.be_desk.specs.declared.planned.Renewed.{Renewed}
use Rattle.be_rules.proofs.Far.{windows_changed}
use Rattle.be_asking.proofs.UsesAnswered.{in_front, behind}
use Rattle.be_steps.proofs.Making.{now, read, settled_now, then_is, there}
use Rattle.be_steps.proofs.Moved.{at_map}
use Rattle.be_steps.proofs.Stays.{part_held}
use Rattle.be_steps.specs.Steps.{IsAllowed, IsDone, LeavesAt}
use Rattle.be_steps.specs.There.{IsThere}

-- ---- commands

abbrev change_or : Change → Effect → Change
change_or else_this (changes change) = change
change_or else_this (at_view v deed) = else_this
change_or else_this ends_update = else_this

-- the same command is the same change
pub same_change : (x : Command) (a b : Change) → x ≡ command.Change a → x ≡ command.Change b → a ≡ b
same_change x a b first second = ap (λ (c : Command). change_or a (effect_of c)) (sym first ∙ second)

-- ---- slices

means_port : (w : ℕ) (o : Option _) → kind_of (port w o) ≡ of_port
means_port w o = refl

module _ (d : Declared) (old : Hand Part) (w : ℕ) (allowed : IsAllowed d old.parts (who.Twin w) (want.Executes w)) (plan : Planned) (places : List ℕ)
    (next : IsNextChange d old.parts w plan.change) (window : plan.window ≡ w) (planned : IsPlannedIn d old.parts plan places) where
  abbrev s : State
  s = now d old.parts (who.Twin w) (want.Executes w) allowed

  abbrev later : State
  later = then_is d old.parts (who.Twin w) (want.Executes w) allowed

  abbrev this : Numbered
  this = numbered (next.0, command.Change plan.change)

  front : option_and_then (λ (l : List Numbered). slice_get l 0) (slice_get s.links w) ≡ Some this
  front = front_now d old.parts allowed.number w allowed.asked next.0 (command.Change plan.change) next.1

  executed_later : later ≡ executed d s w
  unfolding met
  executed_later = refl

  -- ---- what is in hand

  seen : (seen_in s).oldest w ≡ Some (changes plan.change)
  seen = oldest_now d old.parts allowed.number w allowed.asked next.0 (command.Change plan.change) next.1

  told : (x : part.Part) → IsAmong x (part.link w ∷ effect_parts w (Some (changes plan.change))) → IsThere d old.parts x
  told x among = there d old.parts (who.Twin w) (want.Executes w) allowed x (subst (λ o. IsAmong x (part.link w ∷ effect_parts w o)) (sym seen) among)

  link_there : IsThere d old.parts (part.link w)
  link_there = told (part.link w) (inl refl)

  desk_there : IsThere d old.parts part.desk
  desk_there = told part.desk (inr (inl refl))

  port_there : (x : part.Part) → IsAmong x (port_for w plan.change) → IsThere d old.parts x
  port_there x among = told x (inr (inr (in_front x (port_for w plan.change) (part.pane w ∷ []) among)))

  desk_is : s.desk ≡ planned.known
  desk_is = desk_known d old.parts (who.Twin w) (want.Executes w) allowed planned.known planned.at_desk

  after_here : (a : Desk) × (desk_after s.desk w plan.change ≡ Ok a)
  after_here =
      let a = after_desk d old.parts (who.Twin w) (want.Executes w) allowed plan places planned in
      (a.0, ap (λ n. desk_after s.desk n plan.change) (sym window) ∙ a.1)

  -- ---- the state afterwards

  link_later : slice_of later (part.link w) ≡ link_with shortened (slice_of s (part.link w))
  link_later = ap (λ (t : State). link w (slice_get t.links w)) executed_later ∙ ap (λ l. link w (slice_get l w)) (links_executed d s w this plan.change front refl) ∙ ap (link w) (at_map s.links w shortened)

  pane_later : (u : ℕ) → slice_of later (part.pane u) ≡ pane u (shown_of (changed s plan.window plan.change) u)
  pane_later u =
      ap (λ (t : State). pane u (shown_of t u)) executed_later ∙ ap (pane u) (shown_executed d s w this plan.change front refl u) ∙ ap (λ n. pane u (shown_of (changed s n plan.change) u)) (sym window)

  changed_later : later ≡ changed (without_front s w) w plan.change
  changed_later = executed_later ∙ executed_is d s w this plan.change front refl

  desk_later : slice_of later part.desk ≡ desk after_here.0
  desk_later = ap (λ (t : State). desk t.desk) changed_later ∙ ap desk (desk_changed (without_front s w) w plan.change after_here.0 after_here.1)

  ports_later : later.ports ≡ ports_after w plan.change s.ports
  ports_later = ap (λ (t : State). t.ports) changed_later ∙ ports_changed (without_front s w) w plan.change after_here.0 after_here.1

  leaves_as : (x : part.Part) (v : Slice) → IsThere d old.parts x → slice_of later x ≡ v → LeavesAt d old.parts (who.Twin w) (place_of d x) v
  leaves_as x v is same = leaves_known d old.parts (who.Twin w) (want.Executes w) allowed planned.known planned.at_desk x v is same

  -- ---- the link

  module _ (place : ℕ) (spot : place ≡ place_of d (part.link w)) where
    pub link_in_hand : (k : Slice) × (part_at old.parts place ≡ Some (kinds.Link k))
    link_in_hand = (next.1.link, ap (part_at old.parts) spot ∙ next.1.there)

    link_front : (q : Slice) → part_at old.parts place ≡ Some (kinds.Link q) → front_of q ≡ Some this
    link_front q at =
        ap front_of (ap meaning_of (same_Some (kinds.Link q) (kinds.Link next.1.link) (sym at ∙ ap (part_at old.parts) spot ∙ next.1.there))) ∙ next.1.oldest

    pub some_popped : (q : Slice) (o : Option (ℕ × Command)) → part_at old.parts place ≡ Some (kinds.Link q) → option_map numbered o ≡ front_of q → is_some o ≡ true
    some_popped q o at popped = by o (popped ∙ link_front q at)
      where
        by : (o : Option (ℕ × Command)) → option_map numbered o ≡ Some this → is_some o ≡ true
        by (Some x) is = refl
        by None is = absurd (cc)

    pub popped_is : (q : Slice) (o : Option (ℕ × Command)) (x : ℕ × Command) → part_at old.parts place ≡ Some (kinds.Link q) → option_map numbered o ≡ front_of q → o ≡ Some x → x.1 ≡ command.Change plan.change
    popped_is q o x at popped took = ap (λ (k : Numbered). k.command) (same_Some (numbered x) this (ap (option_map numbered) (sym took) ∙ popped ∙ link_front q at))

    pub link_left : (q z : Slice) → part_at old.parts place ≡ Some (kinds.Link q) → z ≡ link_with shortened q → HasLeft d old.parts (who.Twin w) (part.link w ∷ []) old (hand_with old place (kinds.Link z))
    link_left q z at short =
        one_left d old.parts (who.Twin w) old (part.link w) place (kinds.Link q) (kinds.Link z) spot link_there.reachable.there at refl
        (leaves_as (part.link w) z link_there
        (link_later
        ∙ ap (link_with shortened) (read d old.parts (who.Twin w) (want.Executes w) allowed (part.link w) (kinds.Link q) link_there.reachable.there (ap (part_at old.parts) (sym spot) ∙ at))
        ∙ sym short))

  -- ---- the panes

  module _ (place : ℕ) (spot : place ≡ place_of d (part.link w)) (q z : Slice) (at : part_at old.parts place ≡ Some (kinds.Link q)) (short : z ≡ link_with shortened q) where
    abbrev linked : Hand Part
    linked = hand_with old place (kinds.Link z)

    the_link_left : HasLeft d old.parts (who.Twin w) (part.link w ∷ []) old linked
    the_link_left = link_left place spot q z at short

    not_the_link : (x : part.Part) → (x ≡ part.link w → ⊥) → IsAmong x (part.link w ∷ []) → ⊥
    not_the_link x other (inl is) = other is
    not_the_link x other (inr never) = never

    -- what the loop over the panes asks for
    pub panes_ready : (b : Hand Part) → b ≡ old → PanesAreToChange d b.parts linked.parts (who.Twin w) plan places
    panes_ready b copy =
        subst (λ (h : Hand Part). PanesAreToChange d h.parts linked.parts (who.Twin w) plan places) (sym copy)
        (panes_of_plan d old.parts (who.Twin w) (want.Executes w) allowed plan places planned pane_later linked.parts
        (λ u there. others_stay d old.parts (who.Twin w) (part.link w ∷ []) old linked (part.pane u) there (not_the_link (part.pane u) (λ same. absurd (cc))) the_link_left))

    -- ---- the port

    module _ (named : List ℕ) (panes_hand : Hand Part) (panes_left : HasLeft d old.parts (who.Twin w) (map part.pane named) linked panes_hand) where
      so_far : HasLeft d old.parts (who.Twin w) (part.link w ∷ map part.pane named) old panes_hand
      so_far = both_left d old.parts (who.Twin w) (part.link w ∷ []) (map part.pane named) old linked panes_hand the_link_left panes_left

      neither : (x : part.Part) → (x ≡ part.link w → ⊥) → ((u : ℕ) → x ≡ part.pane u → ⊥) → IsAmong x (part.link w ∷ map part.pane named) → ⊥
      neither x other others (inl is) = other is
      neither x other others (inr among) = no_pane x others named among

      port_later : plan.change ≡ Close → slice_of later (part.port w) ≡ port w (option_map closed_port (slice_get s.ports w))
      port_later closes = ap (λ l. port w (slice_get l w)) (ports_later ∙ ap (λ c. ports_after w c s.ports) closes) ∙ ap (port w) (at_map s.ports w closed_port)

      closing : (x : part.Part) → IsAmong x (port_for w plan.change) → IsToClose d old.parts panes_hand.parts (who.Twin w) x
      closing x among =
          let is = port_closes w plan.change x among in
          let known : IsThere d old.parts (part.port w) = subst (λ (y : part.Part). IsThere d old.parts y) is.0 (port_there x among) in
          let y : (y : Part) × (part_at old.parts (place_of d (part.port w)) ≡ Some y) = part_held old.parts (place_of d (part.port w)) known.held in
          let stays : part_at panes_hand.parts (place_of d (part.port w)) ≡ part_at old.parts (place_of d (part.port w)) = others_stay d old.parts (who.Twin w) (part.link w ∷ map part.pane named) old panes_hand (part.port w) known.reachable.there (neither (part.port w) (λ same. absurd (cc)) (λ u same. absurd (cc))) so_far in
          let means : (z : Part) → part_at old.parts (place_of d (part.port w)) ≡ Some z → slice_of s (part.port w) ≡ meaning_of z = λ z at. read d old.parts (who.Twin w) (want.Executes w) allowed (part.port w) z known.reachable.there at in
          let got : lists.IsThere s.ports w = lists.there s.ports w (subst (λ n. w < n) (sym (settled_now d old.parts (who.Twin w) (want.Executes w) allowed).parts.ports) known.reachable.there) in
          subst (λ (x' : part.Part). IsToClose d old.parts panes_hand.parts (who.Twin w) x') (sym is.0)
          (record {
            there = known.reachable.there;
            held = known.held;
            port = (y.0, stays ∙ y.1, ap kind_of (sym (means y.0 y.1)) ∙ means_port w (slice_get s.ports w));
            leads = λ z at_z v leaves. record {
              window = w;
              of = got.element;
              before = sym (means z (sym stays ∙ at_z)) ∙ ap (port w) got.read;
              after_is = told_known d old.parts (who.Twin w) (want.Executes w) allowed planned.known planned.at_desk (part.port w) v known.reachable.there leaves ∙ port_later is.1 ∙ ap (λ o. port w (option_map closed_port o)) got.read;
            };
          })

      pub port_ready : (b : Hand Part) (change : Change) → b ≡ old → change ≡ plan.change → AreToClose d b.parts panes_hand.parts (who.Twin w) w change
      port_ready b change copy is = subst (λ (h : Hand Part). AreToClose d h.parts panes_hand.parts (who.Twin w) w change) (sym copy) (subst (λ k. AreToClose d old.parts panes_hand.parts (who.Twin w) w k) (sym is) closing)

      -- ---- the desk

      module _ (change : Change) (closed : Hand Part) (port_left : HasLeft d old.parts (who.Twin w) (port_for w change) panes_hand closed) (same_change : change ≡ plan.change) where
        the_port_left : HasLeft d old.parts (who.Twin w) (port_for w plan.change) panes_hand closed
        the_port_left = subst (λ c. HasLeft d old.parts (who.Twin w) (port_for w c) panes_hand closed) same_change port_left

        abbrev made_so_far : List part.Part
        made_so_far = (part.link w ∷ map part.pane named) ++ port_for w plan.change

        but_the_desk : HasLeft d old.parts (who.Twin w) made_so_far old closed
        but_the_desk = both_left d old.parts (who.Twin w) (part.link w ∷ map part.pane named) (port_for w plan.change) old panes_hand closed so_far the_port_left

        no_desk : IsAmong part.desk made_so_far → ⊥
        no_desk among =
            ⊎_elim
            (λ first. neither part.desk (λ same. absurd (cc)) (λ u same. absurd (cc)) first)
            (λ second. let is = (port_closes w plan.change part.desk second).0 in absurd (cc))
            (among_either part.desk (part.link w ∷ map part.pane named) (port_for w plan.change) among)

        desk_stays : part_at closed.parts (place_of d part.desk) ≡ Some (kinds.Desk (desk planned.known))
        desk_stays = others_stay d old.parts (who.Twin w) made_so_far old closed part.desk desk_there.reachable.there no_desk but_the_desk ∙ planned.at_desk

        module _ (where_desk : ℕ) (desk_spot : where_desk ≡ place_of d part.desk) where
          pub desk_in_hand : (k : Slice) × (part_at closed.parts where_desk ≡ Some (kinds.Desk k))
          desk_in_hand = (desk planned.known, ap (part_at closed.parts) desk_spot ∙ desk_stays)

          desk_was : (k : Slice) → part_at closed.parts where_desk ≡ Some (kinds.Desk k) → k ≡ desk planned.known
          desk_was k at_desk = ap meaning_of (same_Some (kinds.Desk k) (kinds.Desk (desk planned.known)) (sym at_desk ∙ ap (part_at closed.parts) desk_spot ∙ desk_stays))

          pub plan_for : (k : Slice) (then_plan : Planned) (spans : List (Option Renewed)) → then_plan ≡ record plan { spans = spans } → part_at closed.parts where_desk ≡ Some (kinds.Desk k) → IsPlanFor then_plan k
          plan_for k then_plan spans is at_desk =
              subst (λ (t : Planned). IsPlanFor t k) (sym is) (planned.known, desk_was k at_desk, planned.planned.on_desk)

          desk_after_is : (k v : Slice) (then_plan : Planned) (spans : List (Option Renewed)) → then_plan ≡ record plan { spans = spans } → k ≡ desk planned.known → IsChangedBy then_plan k v → slice_of later part.desk ≡ v
          desk_after_is k v then_plan spans is before changed_by =
              let x_is : changed_by.0 ≡ s.desk = same_Some changed_by.0 s.desk (ap desk_in (sym changed_by.2 ∙ before) ∙ ap (λ (x : Desk). Some x) (sym desk_is)) in
              let leads : desk_after s.desk w plan.change ≡ Ok changed_by.1 =
              ap (λ n. desk_after s.desk n plan.change) (sym window) ∙ ap (λ (x : Desk). desk_after x plan.window plan.change) (sym x_is) ∙ ap (λ (t : Planned). desk_after changed_by.0 t.window t.change) (sym is) ∙ changed_by.4 in
              desk_later ∙ ap desk (same_ok after_here.0 changed_by.1 (desk_after s.desk w plan.change) after_here.1 leads) ∙ sym changed_by.3

          pub change_done : (k v : Slice) (then_plan : Planned) (spans : List (Option Renewed)) → then_plan ≡ record plan { spans = spans } → places ≡ pane_places d named → part_at closed.parts where_desk ≡ Some (kinds.Desk k) → IsChangedBy then_plan k v
              → IsDone d (who.Twin w) old (hand_with closed where_desk (kinds.Desk v))
          change_done k v then_plan spans is places_are at_desk changed_by =
              let the_desk_left : HasLeft d old.parts (who.Twin w) (part.desk ∷ []) closed (hand_with closed where_desk (kinds.Desk v)) = one_left d old.parts (who.Twin w) closed part.desk where_desk (kinds.Desk k) (kinds.Desk v) desk_spot desk_there.reachable.there at_desk refl (leaves_as part.desk v desk_there (desk_after_is k v then_plan spans is (desk_was k at_desk) changed_by)) in
              all_left d old.parts (who.Twin w) (want.Executes w) allowed old (hand_with closed where_desk (kinds.Desk v)) (made_so_far ++ part.desk ∷ []) refl
              (both_left d old.parts (who.Twin w) made_so_far (part.desk ∷ []) old closed (hand_with closed where_desk (kinds.Desk v)) but_the_desk the_desk_left)
              (λ x touched. covers x touched)
            where
              windows_later : later.desk.windows ≡ windows_behind planned.known plan.window plan.change
              windows_later =
                  ap (λ (t : State). t.desk.windows) changed_later ∙ windows_changed (without_front s w) w plan.change ∙ ap (λ (k'' : Desk). windows_behind k'' w plan.change) desk_is
                  ∙ ap (λ n. windows_behind planned.known n plan.change) (sym window)

              covers : (x : part.Part) → Touches s later (wants.executes w) x → IsAmong x (made_so_far ++ part.desk ∷ [])
              covers x (inl is_link) = inl is_link
              covers x (inr oldest) =
                  by (subst (λ o. TouchesOldest s later w o x) front oldest)
                where
                  by : TouchesFor s later w (changes plan.change) x → IsAmong x (made_so_far ++ part.desk ∷ [])
                  by (inl is_desk) = behind x made_so_far (part.desk ∷ []) (inl is_desk)
                  by (inr (inl closes)) = in_front x made_so_far (part.desk ∷ []) (behind x (part.link w ∷ map part.pane named) (port_for w plan.change) (touched_port w plan.change x closes))
                  by (inr (inr stirs)) =
                      in_front x made_so_far (part.desk ∷ [])
                      (in_front x (part.link w ∷ map part.pane named) (port_for w plan.change)
                      (inr (stirred_made d old.parts (who.Twin w) (want.Executes w) allowed plan places planned windows_later named places_are x (subst (λ n. TouchesPanes s later n x) (sym window) stirs))))
