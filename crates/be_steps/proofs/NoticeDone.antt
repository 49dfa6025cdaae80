-- A notice of an update as a step.
use Rattle.std.proofs.Common.{◌≡◌, ℕ, ◌*◌, ◌<◌, ◌≤◌, length, arith, Bool, true, false, [], ◌∷◌, Some, inl, inr, refl, sym, ap, ◌∙◌, subst, ⊎_elim}
use Rattle.std.specs.Prelude.{option_map, if◌then◌else◌}
use Rattle.std.proofs.lemmas.Option.{same_Some}
use Rattle.be_asking.proofs.Small.{small}
use Rattle.be_asking.specs.declared.activity.Activity.TheVariants as who
use Rattle.be_asking.specs.declared.want.Want.TheVariants as want
use Rattle.be_hall.specs.Hands.{Hand, part_at, with_part}
use Rattle.be_machine.proofs.Lists as lists
use Rattle.be_machine.specs.Activities.{twin}
use Rattle.be_machine.specs.KeptLimits.{OwedNoticesAreAlone}
use Rattle.be_machine.specs.Lists.{at}
use Rattle.be_machine.specs.Port.{notice, notified}
use Rattle.be_machine.specs.State.{State}
use Rattle.be_machine.specs.Step.{met}
use Rattle.be_machine.specs.Touched as part
use Rattle.be_machine.specs.Update.{owes_notice}
use Rattle.be_machine.specs.Wants as wants
use Rattle.be_machine.specs.Wants.{want_of}
use Rattle.be_message.specs.Messages.{Message}
use Rattle.be_parts.specs.Kept.{Kept, Logged}
use Rattle.be_parts.specs.Panes.{HasNotified}
use Rattle.be_parts.specs.Parts.{hand_with}
use Rattle.be_parts.specs.Ports.{HasNotice, letters_of}
use Rattle.be_parts.specs.declared.part.Part.{Part}
use Rattle.be_parts.specs.declared.part.Part.TheVariants as kinds
use Rattle.be_port.specs.Ports.{Port, with_letter}
use Rattle.be_port.specs.declared.letter.Letter as held
use Rattle.be_rules.specs.Places.{place_of}
use Rattle.be_rules.specs.Rules.{SliceFits}
use Rattle.be_rules.specs.Slices.{Slice, pane, port, shown_of, slice_of}
use Rattle.be_script.specs.Script.{Declared}
use Rattle.be_steps.proofs.Leaving.{left_is}
use Rattle.be_steps.proofs.Making.{done, now, read, settled_now, so, then_is, there, wanted_now}
use Rattle.be_steps.proofs.Moved.{at_map}
use Rattle.be_steps.proofs.Stays.{stays, two_made}
use Rattle.be_steps.specs.Notices.{IsNotice}
use Rattle.be_steps.specs.Steps.{IsAllowed, IsDone, LeavesAt}
use Rattle.be_steps.specs.There.{IsThere}

-- a port whose slice has few letters
few_by : (k : Slice) (w : ℕ) (p : Port Message) → k ≡ port w (Some p) → SliceFits 4611686018427387904 k → letters_of k < 18446744073709551615
few_by k w p is fits =
    let few : length p.arrived ≤ 2 * 4611686018427387904 = subst (SliceFits 4611686018427387904) is fits in
    subst (λ (x : Slice). letters_of x < 18446744073709551615) (sym is) (omega (arith, few))

-- a twin that notifies owes it
owed_by : (b : Bool) (w : ℕ) → (if b then wants.notifies w else wants.executes w) ≡ wants.notifies w → b ≡ true
owed_by true w is = refl
owed_by false w is = absurd (cc)

owed : (d : Declared) (s : State) (w : ℕ) → want_of d s (twin w) ≡ Some (wants.notifies w) → owes_notice s w ≡ true
unfolding want_of
owed d s w wanted = owed_by (owes_notice s w) w (same_Some _ _ wanted)

module _ (d : Declared) (old : Hand Part) (w : ℕ) (allowed : IsAllowed d old.parts (who.Twin w) (want.Notifies w)) where
  abbrev s : State
  s = now d old.parts (who.Twin w) (want.Notifies w) allowed

  abbrev later : State
  later = then_is d old.parts (who.Twin w) (want.Notifies w) allowed

  pub port_there : IsThere d old.parts (part.port w)
  port_there = there d old.parts (who.Twin w) (want.Notifies w) allowed (part.port w) (inr (inl refl))

  pub pane_there : IsThere d old.parts (part.pane w)
  pane_there = there d old.parts (who.Twin w) (want.Notifies w) allowed (part.pane w) (inl refl)

  got : lists.IsThere s.ports w
  got = lists.there s.ports w (subst (λ n. w < n) (sym (settled_now d old.parts (who.Twin w) (want.Notifies w) allowed).parts.ports) port_there.reachable.there)

  port_later : slice_of later (part.port w) ≡ port w (Some (with_letter (notice w) got.element))
  unfolding met
  port_later = ap (port w) (at_map s.ports w (with_letter (notice w)) ∙ ap (option_map (with_letter (notice w))) got.read)

  pane_later : slice_of later (part.pane w) ≡ pane w (shown_of (notified s w) w)
  unfolding met
  pane_later = refl

  owes : owes_notice s w ≡ true
  owes = owed d s w (wanted_now d old.parts (who.Twin w) (want.Notifies w) allowed)

  module _ (pp qp : ℕ) (port_spot : pp ≡ place_of d (part.port w)) (pane_spot : qp ≡ place_of d (part.pane w)) where
    before : (k : Slice) → part_at old.parts pp ≡ Some (kinds.Port k) → k ≡ port w (Some got.element)
    before k at =
        sym (read d old.parts (who.Twin w) (want.Notifies w) allowed (part.port w) (kinds.Port k) port_there.reachable.there (ap (part_at old.parts) (sym port_spot) ∙ at))
        ∙ ap (port w) got.read

    pub few_letters : (k : Slice) → part_at old.parts pp ≡ Some (kinds.Port k) → letters_of k < 18446744073709551615
    few_letters k at = few_by k w got.element (before k at) (small 4611686018427387904 old.parts pp (kinds.Port k) allowed.asked.small at)

    told : (x : part.Part) (place : ℕ) (b : Hand Part) (v : Slice) → IsThere d old.parts x → place ≡ place_of d x → b ≡ old → LeavesAt d b.parts (who.Twin w) place v → v ≡ slice_of later x
    told x place b v here spot copy leaves =
        left_is d old.parts (who.Twin w) (want.Notifies w) allowed x here.reachable.there v
        (subst (λ n. LeavesAt d old.parts (who.Twin w) n v) spot (subst (λ (h : Hand Part). LeavesAt d h.parts (who.Twin w) place v) copy leaves))

    pub has_notice_now : OwedNoticesAreAlone → (letter : held.Letter) → IsNotice w letter → (k v : Slice) (b : Hand Part) → b ≡ old → part_at old.parts pp ≡ Some (kinds.Port k) → LeavesAt d b.parts (who.Twin w) pp v → HasNotice letter k v
    has_notice_now law letter is k v b copy at leaves =
        let sound = so d old.parts (who.Twin w) (want.Notifies w) allowed in
        let free = law d sound.history w got.element sound.limits sound.legal owes got.read in
        record {
          window = w;
          of = got.element;
          means = notice w;
          carries = is;
          notice = refl;
          open_is = free.0;
          none = free.1;
          before = before k at;
          after_is = told (part.port w) pp b v port_there port_spot copy leaves ∙ port_later;
        }

    -- the pane stays where the port is changed
    pane_stays : (z : Slice) → part_at (with_part old.parts pp (kinds.Port z)) qp ≡ part_at old.parts qp
    pane_stays z = stays d old.parts (part.port w) (part.pane w) port_there.reachable.there pane_there.reachable.there (λ same. absurd (cc)) pp qp port_spot pane_spot (kinds.Port z)

    pub pane_in : (z : Slice) → (k : Kept) × (part_at old.parts (place_of d (part.pane w)) ≡ Some (kinds.Pane k)) → (k : Kept) × (part_at (with_part old.parts pp (kinds.Port z)) qp ≡ Some (kinds.Pane k))
    pane_in z has = (has.0, pane_stays z ∙ ap (part_at old.parts) pane_spot ∙ has.1)

    pane_was : (z : Slice) (was : Kept) → part_at (with_part old.parts pp (kinds.Port z)) qp ≡ Some (kinds.Pane was) → part_at old.parts (place_of d (part.pane w)) ≡ Some (kinds.Pane was)
    pane_was z was at = ap (part_at old.parts) (sym pane_spot) ∙ sym (pane_stays z) ∙ at

    pub has_notified : (z v : Slice) (was : Kept) (b : Hand Part) → b ≡ old → part_at (with_part old.parts pp (kinds.Port z)) qp ≡ Some (kinds.Pane was) → LeavesAt d b.parts (who.Twin w) qp v → HasNotified was.slice v
    has_notified z v was b copy at leaves = record {
      state = s;
      window = w;
      before = sym (read d old.parts (who.Twin w) (want.Notifies w) allowed (part.pane w) (kinds.Pane was) pane_there.reachable.there (pane_was z was at));
      after_is = told (part.pane w) qp b v pane_there pane_spot copy leaves ∙ pane_later;
    }

    pub notice_done : (k u z v : Slice) (was is : Kept) (b : Hand Part) → b ≡ old → part_at old.parts pp ≡ Some (kinds.Port k) → LeavesAt d b.parts (who.Twin w) pp u → z ≡ u
        → part_at (with_part old.parts pp (kinds.Port z)) qp ≡ Some (kinds.Pane was) → LeavesAt d b.parts (who.Twin w) qp v → is.slice ≡ v → is.log ≡ was.log
        → IsDone d (who.Twin w) old (hand_with (hand_with old pp (kinds.Port z)) qp (kinds.Pane is))
    notice_done k u z v was is b copy at leaves port_is at_pane leaves_pane slice log =
        done d old.parts (who.Twin w) (want.Notifies w) allowed old (hand_with (hand_with old pp (kinds.Port z)) qp (kinds.Pane is)) ((part.port w, kinds.Port z) ∷ (part.pane w, kinds.Pane is) ∷ []) refl refl
        (two_made d old (part.port w) (part.pane w) pp qp port_spot pane_spot (kinds.Port k) (kinds.Pane was) (kinds.Port z) (kinds.Pane is) at at_pane refl (ap (λ (l : Logged). Some l) log)) (
          inr (port_there.reachable.there, sym (told (part.port w) pp b u port_there port_spot copy leaves) ∙ sym port_is),
          (inr (pane_there.reachable.there, sym (told (part.pane w) qp b v pane_there pane_spot copy leaves_pane) ∙ sym slice), tt),
        )
        (λ x touched. ⊎_elim (λ here. inl here) (λ later. inr (inl later)) touched)
