-- What is found out in one sound list with the parts in hand is so in each.
use Rattle.std.proofs.Common.{◌≡◌, ℕ, List, [], ◌∷◌, Some, None, ◌⊎◌, inl, inr, ⊎_elim, sym, ap, subst, ◌∙◌}
use Rattle.std.specs.Prelude.{slice_get, option_and_then}
use lib.ListN.{get_elem?}
use Rattle.be_hall.specs.Machine.{Fits, IsHeld}
use Rattle.be_script.specs.Script.{Declared}
use Rattle.be_machine.specs.Activities.{Activity, runner, app, looper, twin, input, closing, activity_of}
use Rattle.be_machine.specs.Laws.{IsWantOf}
use Rattle.be_machine.specs.Legal.{legal_act, want_act}
use Rattle.be_machine.specs.State.{State}
use Rattle.be_machine.specs.Touched.{Part, SamePart}
use Rattle.be_machine.specs.Touched as part
use Rattle.be_machine.specs.Wants.{Want, stops, want_of}
use Rattle.be_machine.proofs.LegalEntries.{maker, maker_is}
use Rattle.be_rules.specs.Found.{OwnHeld, CannotAct, NeedsPart}
use Rattle.be_rules.specs.Own.{SameOwn}
use Rattle.be_rules.specs.Places.{place_of, IsPart}
use Rattle.be_rules.specs.Rules.{IsSound, kept_at}
use Rattle.be_rules.specs.Slices.{Slice, slice_of, all_parts}
use Rattle.be_rules.specs.Sure.{in_hand, seen_in, parts_by, IsAmong}
use Rattle.be_rules.proofs.InHand.{needs_by}
use Rattle.be_rules.proofs.Lawfully.{state, whole, back}
use Rattle.be_rules.proofs.ListLemmas.{elem_map, same_elements}
use Rattle.be_rules.proofs.Local.{is_part, at_place, part_by, others_same}
use Rattle.be_rules.proofs.NotYet.{waits_by}
use Rattle.be_rules.proofs.WantBy.{BothSettled, both_settled, want_by}

pub same_place : (all other : List Slice) (held : List (ℕ × Slice)) (p : ℕ) → Fits all held → Fits other held → IsHeld held p → get_elem? all p ≡ get_elem? other p
same_place all other [] p f g h = absurd h
same_place all other (x ∷ xs) p f g h = ⊎_elim (λ is. ap (get_elem? all) (sym is) ∙ f.0 ∙ sym g.0 ∙ ap (get_elem? other) is) (λ later. same_place all other xs p f.1 g.1 later) h

module _ (d : Declared) (held : List (ℕ × Slice)) (all other : List Slice) (sound : IsSound d all) (sound' : IsSound d other) (fits : Fits all held) (fits' : Fits other held) where
  abbrev s : State
  s = state d all sound

  abbrev r : State
  r = state d other sound'

  part_same : (x : Part) → IsPart d x ⊎ (IsPart d x → ⊥) → IsHeld held (place_of d x) → SamePart s r x
  part_same x (inl there) h = part_by d s r (whole d all sound) (whole d other sound') x (same_elements (slice_of r x) (slice_of s x) (
      sym (elem_map (slice_of r) (all_parts d) (place_of d x) x (at_place d x there))
      ∙ sym (ap (λ l. get_elem? l (place_of d x)) sound'.is)
      ∙ sym (same_place all other held (place_of d x) fits fits' h)
      ∙ ap (λ l. get_elem? l (place_of d x)) sound.is
      ∙ elem_map (slice_of s) (all_parts d) (place_of d x) x (at_place d x there)))
  part_same x (inr out) h = others_same d s r (whole d all sound) (whole d other sound') x out

  -- a part in hand is the same in both
  pub same_in_hand : (x : Part) → IsHeld held (place_of d x) → SamePart s r x
  same_in_hand x h = part_same x (is_part d x) h

  settled : BothSettled d s r
  settled = both_settled d sound.history sound'.history sound.limits sound.legal sound'.legal

  own_by : (who : Activity) → OwnHeld d held all who → SameOwn d s r who
  own_by (runner (app m)) h = (same_in_hand (part.cell m) h.0, λ a w read full lock. same_in_hand (part.looper w) (h.1 a w (ap (λ (t : State). slice_get t.apps m) (back d all sound) ∙ read) full lock))
  own_by (runner (looper w)) h = same_in_hand (part.looper w) h
  own_by (twin w) h = same_in_hand (part.pane w) h
  own_by input h = same_in_hand part.input h
  own_by closing h = same_in_hand part.input h

  -- the activity wants the same
  pub wants_same : (who : Activity) → OwnHeld d held all who → want_of d r who ≡ want_of d s who
  wants_same who h = want_by d s r who settled (own_by who h)

  -- and waits in both
  pub waits_same : (a : ℕ) (who : Activity) (want : Want) → activity_of d a ≡ Some who → OwnHeld d held all who → want_of d s who ≡ Some want → (want ≡ stops → ⊥) → ((p : Part) → IsAmong p (parts_by (seen_in s) want) → IsHeld held (place_of d p)) → want_act d s want ≡ None → legal_act d r a ≡ None
  unfolding legal_act
  waits_same a who want number own wanted still parts none_now =
      let made : maker want ≡ who = maker_is d s who want wanted in
      ap (λ o. option_and_then (want_act d r) (option_and_then (want_of d r) o)) number
      ∙ ap (option_and_then (want_act d r)) (wants_same who own ∙ wanted)
      ∙ waits_by d s r settled want (subst (λ m. want_of d s m ≡ Some want) (sym made) wanted) still (λ p among. same_in_hand p (parts p among)) none_now

  -- or has no want in both
  pub ended_same : (a : ℕ) (who : Activity) → activity_of d a ≡ Some who → OwnHeld d held all who → want_of d s who ≡ None → legal_act d r a ≡ None
  unfolding legal_act
  ended_same a who number own wanted =
      ap (λ o. option_and_then (want_act d r) (option_and_then (want_of d r) o)) number
      ∙ ap (option_and_then (want_act d r)) (wants_same who own ∙ wanted)

-- ---- what may be answered

-- not yet
pub cannot_act : (d : Declared) (held : List (ℕ × Slice)) (all : List Slice) (sound : IsSound d all) → Fits all held → (a : ℕ) (who : Activity) (want : Want) → activity_of d a ≡ Some who → OwnHeld d held all who → want_of d (state d all sound) who ≡ Some want → (want ≡ stops → ⊥) → ((p : Part) → IsAmong p (parts_by (seen_in (state d all sound)) want) → IsHeld held (place_of d p)) → want_act d (state d all sound) want ≡ None → CannotAct d held a
cannot_act d held all sound fits a who want number own wanted still parts none_now other sound' fits' =
    ap (λ t. legal_act d t a) (back d other sound') ∙ waits_same d held all other sound sound' fits fits' a who want number own wanted still parts none_now

-- at its end
pub has_no_act : (d : Declared) (held : List (ℕ × Slice)) (all : List Slice) (sound : IsSound d all) → Fits all held → (a : ℕ) (who : Activity) → activity_of d a ≡ Some who → OwnHeld d held all who → want_of d (state d all sound) who ≡ None → CannotAct d held a
has_no_act d held all sound fits a who number own wanted other sound' fits' = ap (λ t. legal_act d t a) (back d other sound') ∙ ended_same d held all other sound sound' fits fits' a who number own wanted

-- the part that keeps the activity
pub needs_own : (d : Declared) (held : List (ℕ × Slice)) (a p : ℕ) → p ≡ kept_at d (activity_of d a) → (IsHeld held p → ⊥) → NeedsPart d held a p
needs_own d held a p is out = (out, λ e by all sound fits. inl (is ∙ ap (λ n. kept_at d (activity_of d n)) (sym by)))

-- a part that the want touches, by what is in hand
pub needs_part : (d : Declared) (held : List (ℕ × Slice)) (all : List Slice) (sound : IsSound d all) → Fits all held → (a : ℕ) (who : Activity) (want : Want) (x : Part) → activity_of d a ≡ Some who → OwnHeld d held all who → want_of d (state d all sound) who ≡ Some want → IsPart d x → IsAmong x (parts_by (in_hand d held) want) → (IsHeld held (place_of d x) → ⊥) → NeedsPart d held a (place_of d x)
needs_part d held all sound fits a who want x number own wanted there among out = (
  out,
  λ e by other sound' fits'.
      let r : State = state d other sound' in
      let wants : IsWantOf d r e want = ap (λ n. option_and_then (want_of d r) (activity_of d n)) by ∙ ap (option_and_then (want_of d r)) number ∙ wants_same d held all other sound sound' fits fits' who own ∙ wanted in
      inr (needs_by d other sound' held e want x fits' (subst (λ t. IsWantOf d t e want) (sym (back d other sound')) wants) there among),
)
