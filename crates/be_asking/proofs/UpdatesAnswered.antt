-- A twin that owes a notice, and a looper that wants to begin an update.
use Rattle.std.proofs.Common.{◌≡◌, ℕ, ◌+◌, ◌*◌, ◌<◌, ◌≤◌, Bool, true, false, List, Some, None, inl, inr, refl, sym, ap, ◌∙◌, subst, arith}
use Rattle.std.specs.Prelude.{length, option_map, option_and_then, if◌then◌else◌}
use Rattle.be_hall.specs.Hands.{meant, part_at}
use Rattle.be_hall.specs.Machine.{IsHeld}
use Rattle.be_script.specs.Script.{Declared}
use Rattle.be_machine.specs.declared.Act.TheVariants as act
use Rattle.be_machine.specs.Legal.{want_act}
use Rattle.be_machine.specs.State.{State}
use Rattle.be_machine.specs.Touched as part
use Rattle.be_machine.specs.Wants as wants
use Rattle.be_parts.specs.Kept.{Kept}
use Rattle.be_parts.specs.Parts.{meaning_of}
use Rattle.be_parts.specs.declared.part.Part as parts
use Rattle.be_parts.specs.declared.part.Part.TheVariants as kinds
use Rattle.be_rules.specs.Found.{CannotAct, NeedsPart}
use Rattle.be_rules.specs.Places.{place_of}
use Rattle.be_rules.specs.Sure.{IsAmong, parts_by, seen_in}
use Rattle.be_asking.specs.Deeds.{IsAsked, MayAct}
use Rattle.be_asking.specs.Finding.{IsMissing, IsReachable}
use Rattle.be_asking.specs.declared.activity.Activity.TheVariants as who
use Rattle.be_asking.specs.declared.activity.Runner.TheVariants as by
use Rattle.be_asking.specs.declared.want.Want.TheVariants as want
use Rattle.std.specs.Prelude.{◌==◌, ◌↔◌, not, IsTrue}
use Rattle.std.proofs.lemmas.Bool.Decides.{nat_tests}
use Rattle.be_geom.proofs.Numbered.{number_is}
use Rattle.be_link.specs.Queues.{Numbered}
use Rattle.be_message.specs.Messages.{Message}
use Rattle.be_pane.specs.Owed.{IsClean}
use Rattle.be_pane.specs.declared.pane.Pane as panes
use Rattle.be_port.specs.Ports.{Port}
use Rattle.be_port.specs.Queues.{Queue}
use Rattle.be_update.specs.Laws.{FoundAsTheMachine, ListedAsDirty}
use Rattle.be_update.specs.Sessions.{is_any}
use Rattle.be_machine.specs.Windows.{dirty_of, owned}
use Rattle.be_machine.proofs.PixelExposed.{owned_cell_after}
use Rattle.be_machine.specs.Pixels.{owner_in}
use Rattle.be_parts.specs.Changed.{cells_in}
use Rattle.be_parts.specs.Panes.{IsFull}
use Rattle.be_parts.proofs.Begun.{are_dirty, as_owned}
use Rattle.be_rules.specs.Rules.{IsSound}
use Rattle.be_rules.proofs.Lawfully.{state}
use Rattle.be_parts.specs.Stands.{PaneIs, PaneShows, PortIs}
use Rattle.be_rules.specs.Slices.{Slice, desk, input, cell, looper, port, link, pane, link_in, port_in, shown_of}
use Rattle.be_asking.proofs.Asked.{here, link_is, may, missing, port_is, reach, s, sound, waits}
use Rattle.be_asking.proofs.InHand.{pane_read}
use Rattle.be_asking.proofs.Small.{small, small_port}

-- ---- notices

notified_by : (slice : Slice) (q : Queue) → PortIs slice q → option_map (λ (p : Port Message). act.Notify (length p.arrived + 1)) (port_in slice) ≡ Some (act.Notify (q.last + 1))
notified_by (port w (Some p)) q stands = ap (λ n. Some (act.Notify (n + 1))) (sym stands.last)
notified_by (port w None) q stands = absurd stands
notified_by (desk x) q stands = absurd stands
notified_by (input k b) q stands = absurd stands
notified_by (cell m a) q stands = absurd stands
notified_by (looper w l b) q stands = absurd stands
notified_by (link w l) q stands = absurd stands
notified_by (pane w x) q stands = absurd stands

module _ (d : Declared) (inhand : List (ℕ × parts.Part)) (a w : ℕ) (asked : IsAsked d inhand a (who.Twin w) (want.Notifies w)) where
  abbrev now : State
  now = s d inhand a _ _ asked

  pub reach_pane : IsReachable d inhand (part.pane w)
  reach_pane = reach d inhand a _ _ asked (part.pane w) (inl refl)

  pub reach_port : IsReachable d inhand (part.port w)
  reach_port = reach d inhand a _ _ asked (part.port w) (inr (inl refl))

  pub needs_pane : (place : ℕ) → IsMissing d inhand (part.pane w) place → NeedsPart d (meant meaning_of inhand) a place
  needs_pane place gone = missing d inhand a _ _ asked (part.pane w) place gone (inl refl)

  pub needs_port : (place : ℕ) → IsMissing d inhand (part.port w) place → NeedsPart d (meant meaning_of inhand) a place
  needs_port place gone = missing d inhand a _ _ asked (part.port w) place gone (inr (inl refl))

  module _ (q : Slice) (at_port : part_at inhand (place_of d (part.port w)) ≡ Some (kinds.Port q)) (queue : Queue) (stands : PortIs q queue) where
    pub few_letters : queue.last ≤ 2 * 4611686018427387904
    few_letters = small_port 4611686018427387904 q queue (small 4611686018427387904 inhand (place_of d (part.port w)) (kinds.Port q) asked.small at_port) stands

    module _ (k : Kept) (at_pane : part_at inhand (place_of d (part.pane w)) ≡ Some (kinds.Pane k)) where
      there : (p : part.Part) → IsAmong p (parts_by (seen_in now) (wants.notifies w)) → IsHeld (meant meaning_of inhand) (place_of d p)
      there p (inl is) = subst (λ x. IsHeld (meant meaning_of inhand) (place_of d x)) (sym is) (here d inhand a _ _ asked (part.pane w) (kinds.Pane k) at_pane)
      there p (inr (inl is)) = subst (λ x. IsHeld (meant meaning_of inhand) (place_of d x)) (sym is) (here d inhand a _ _ asked (part.port w) (kinds.Port q) at_port)
      there p (inr (inr nobody)) = absurd nobody

      acts : want_act d now (wants.notifies w) ≡ Some (act.Notify (queue.last + 1))
      unfolding want_act
      acts = ap (option_map (λ (p : Port Message). act.Notify (length p.arrived + 1))) (port_is d inhand a _ _ asked w (kinds.Port q) reach_port.there at_port) ∙ notified_by q queue stands

      pub notifies : MayAct d (meant meaning_of inhand) a (act.Notify (queue.last + 1))
      notifies = may d inhand a _ _ asked (act.Notify (queue.last + 1)) (λ p far. absurd far) there acts

-- ---- the begin of an update

-- each pixel that the window owns is on the screen
full : (d : Declared) (all : List Slice) (so : IsSound d all) (w : ℕ) → IsFull (state d all so) w
full d all so w x y mine = owned_cell_after d so.history w x y so.legal (number_is w (owner_in (state d all so) x y) mine)

begun_by : (n : ℕ) (b : Bool) (dirty : Bool) → (n == 0) ≡ b → (if n == 0 then Some (act.Begin dirty) else None) ≡ (if b then Some (act.Begin dirty) else None)
begun_by n b dirty is = ap (λ t. if t then Some (act.Begin dirty) else None) is

pub none_linked : (n m : ℕ) → m ≡ n → m ≤ 0 → (n == 0) ≡ true
none_linked n m same le = let none : n ≡ 0 = omega arith in ap (λ k. k == 0) none

pub some_linked : (n m : ℕ) → m ≡ n → 0 < m → (n == 0) ≡ false
some_linked n m same more = let lt : 0 < n = omega arith in grind (arith, nat_tests)

any_by : (b : Bool) (clean : Bool) (P : Type 0) → (IsTrue clean ↔ P) → (P ↔ (b ≡ false)) → b ≡ not clean
any_by true true P one two = let no : true ≡ false = two.0 (one.0 refl) in absurd (cc)
any_by false true P one two = refl
any_by true false P one two = refl
any_by false false P one two = let no : IsTrue false = one.1 (two.1 refl) in absurd (cc)

module _ (d : Declared) (inhand : List (ℕ × parts.Part)) (a w : ℕ) (asked : IsAsked d inhand a (who.Runner (by.Looper w)) (want.Begins w)) where
  abbrev at_begin : State
  at_begin = s d inhand a _ _ asked

  pub begin_reach_looper : IsReachable d inhand (part.looper w)
  begin_reach_looper = reach d inhand a _ _ asked (part.looper w) (inl refl)

  pub begin_reach_link : IsReachable d inhand (part.link w)
  begin_reach_link = reach d inhand a _ _ asked (part.link w) (inr (inl refl))

  pub begin_reach_pane : IsReachable d inhand (part.pane w)
  begin_reach_pane = reach d inhand a _ _ asked (part.pane w) (inr (inr (inl refl)))

  pub begin_needs_looper : (place : ℕ) → IsMissing d inhand (part.looper w) place → NeedsPart d (meant meaning_of inhand) a place
  begin_needs_looper place gone = missing d inhand a _ _ asked (part.looper w) place gone (inl refl)

  pub begin_needs_link : (place : ℕ) → IsMissing d inhand (part.link w) place → NeedsPart d (meant meaning_of inhand) a place
  begin_needs_link place gone = missing d inhand a _ _ asked (part.link w) place gone (inr (inl refl))

  pub begin_needs_pane : (place : ℕ) → IsMissing d inhand (part.pane w) place → NeedsPart d (meant meaning_of inhand) a place
  begin_needs_pane place gone = missing d inhand a _ _ asked (part.pane w) place gone (inr (inr (inl refl)))

  module _ (l k : Kept) (q : Slice) (at_looper : part_at inhand (place_of d (part.looper w)) ≡ Some (kinds.Looper l)) (at_link : part_at inhand (place_of d (part.link w)) ≡ Some (kinds.Link q))
      (at_pane : part_at inhand (place_of d (part.pane w)) ≡ Some (kinds.Pane k)) (commands : List Numbered) (link : link_in q ≡ Some commands) where
    all_there : (p : part.Part) → IsAmong p (parts_by (seen_in at_begin) (wants.begins w)) → IsHeld (meant meaning_of inhand) (place_of d p)
    all_there p (inl is) = subst (λ x. IsHeld (meant meaning_of inhand) (place_of d x)) (sym is) (here d inhand a _ _ asked (part.looper w) (kinds.Looper l) at_looper)
    all_there p (inr (inl is)) = subst (λ x. IsHeld (meant meaning_of inhand) (place_of d x)) (sym is) (here d inhand a _ _ asked (part.link w) (kinds.Link q) at_link)
    all_there p (inr (inr (inl is))) = subst (λ x. IsHeld (meant meaning_of inhand) (place_of d x)) (sym is) (here d inhand a _ _ asked (part.pane w) (kinds.Pane k) at_pane)
    all_there p (inr (inr (inr nobody))) = absurd nobody

    begin_acts : (empty : Bool) → (length commands == 0) ≡ empty → want_act d at_begin (wants.begins w) ≡ (if empty then Some (act.Begin (is_any (dirty_of at_begin w))) else None)
    unfolding want_act
    begin_acts empty is =
        ap (option_and_then (λ (c : List Numbered). if length c == 0 then Some (act.Begin (is_any (dirty_of at_begin w))) else None)) (link_is d inhand a _ _ asked w (kinds.Link q) begin_reach_link.there at_link ∙ link)
        ∙ begun_by (length commands) empty (is_any (dirty_of at_begin w)) is

    pub begin_waits : (length commands == 0) ≡ false → CannotAct d (meant meaning_of inhand) a
    begin_waits more = waits d inhand a _ _ asked (λ stop. absurd (cc)) all_there (begin_acts false more)

    dirty_is : FoundAsTheMachine → ListedAsDirty → (p : panes.Pane) → PaneIs k.slice p → IsClean p.spans ↔ (is_any (dirty_of at_begin w) ≡ false)
    dirty_is found listed p stands =
        let so : IsSound d asked.fitting.0 = sound d inhand a _ _ asked in
        let whole_screen : IsFull at_begin w = full d asked.fitting.0 so w in
        let shows : PaneShows w (shown_of at_begin w) p = subst (λ (o : Slice). PaneIs o p) (sym (pane_read d inhand asked.fitting.0 so asked.fitting.2 (kinds.Pane k) w begin_reach_pane.there at_pane)) stands in
        (found p w shows.corner shows.kept shows.tree (owned at_begin w) (cells_in at_begin) (dirty_of at_begin w) (as_owned at_begin w whole_screen p shows) (are_dirty at_begin w whole_screen listed)).1

    pub begins_it : FoundAsTheMachine → ListedAsDirty → (length commands == 0) ≡ true → (p : panes.Pane) → PaneIs k.slice p → (clean : Bool) → (IsTrue clean ↔ IsClean p.spans) → MayAct d (meant meaning_of inhand) a (act.Begin (not clean))
    begins_it found listed none p stands clean told =
        may d inhand a _ _ asked (act.Begin (not clean)) (λ x far. absurd far) all_there
        (begin_acts true none ∙ ap (λ b. Some (act.Begin b)) (any_by (is_any (dirty_of at_begin w)) clean (IsClean p.spans) told (dirty_is found listed p stands)))
