-- A runner's own part among those in hand.
use Rattle.std.proofs.Common.{◌≡◌, ℕ, false, List, Option, Some, None, sym, ap, ◌∙◌, subst}
use Rattle.be_actor.specs.declared.Place.{Place}
use Rattle.be_asking.proofs.InHand.{not_held}
use Rattle.be_asking.specs.Finding.{IsMissing}
use Rattle.be_asking.specs.Wants.{runner_in}
use Rattle.be_asking.specs.declared.activity.Runner.{Runner}
use Rattle.be_asking.specs.declared.activity.Runner.TheVariants.{App, Looper}
use Rattle.be_hall.specs.Hands.{Hand, part_at}
use Rattle.be_machine.specs.Touched.{own_part}
use Rattle.be_machine.specs.Touched as part
use Rattle.be_parts.specs.Effects.{app_at, looper_with}
use Rattle.be_parts.specs.Kept.{Kept}
use Rattle.be_parts.specs.Loopers.{at_place}
use Rattle.be_parts.specs.Parts.{hand_with}
use Rattle.be_parts.specs.declared.part.Part.{Part}
use Rattle.be_parts.specs.declared.part.Part.TheVariants as kinds
use Rattle.be_rules.specs.Places.{place_of}
use Rattle.be_rules.specs.Slices.{Slice}
use Rattle.be_script.specs.Script.{Declared}
use Rattle.be_parts.specs.Cells.{is_waiting}
use Rattle.be_steps.specs.Going.{HasGoneFrom, HasOwn, own_kind}
use Rattle.be_steps.specs.Idle.{IsIdle}
use Rattle.be_steps.specs.There.{IsThere}

-- a part that is in hand isn't missing
pub not_missing : (d : Declared) (parts : List (ℕ × Part)) (x : part.Part) (place : ℕ) → IsThere d parts x → IsMissing d parts x place → ⊥
not_missing d parts x place there missing = not_held parts (place_of d x) (ap (part_at parts) (sym missing.0) ∙ missing.1) there.held

module _ (d : Declared) (runner : Runner) (n place : ℕ) where
  pub own_cell : (parts : List (ℕ × Part)) → runner ≡ App n → place ≡ place_of d (part.cell n) → HasOwn d parts runner → (k : Kept) × (part_at parts place ≡ Some (kinds.Cell k))
  own_cell parts is at own = let h = subst (HasOwn d parts) is own in (h.0, ap (part_at parts) at ∙ h.1)

  pub own_looper : (parts : List (ℕ × Part)) → runner ≡ Looper n → place ≡ place_of d (part.looper n) → HasOwn d parts runner → (k : Kept) × (part_at parts place ≡ Some (kinds.Looper k))
  own_looper parts is at own = let h = subst (HasOwn d parts) is own in (h.0, ap (part_at parts) at ∙ h.1)

  -- an idle application's cell
  pub cell_as : (parts : List (ℕ × Part)) → runner ≡ App n → place ≡ place_of d (part.cell n) → (k : Kept) → part_at parts place ≡ Some (kinds.Cell k) → IsIdle d parts runner → is_waiting k.slice ≡ false
  cell_as parts is at k there idle = subst (IsIdle d parts) is idle k (ap (part_at parts) (sym at) ∙ there)

  -- what is known of the part by its place
  pub as_cell : (P : Runner → Kept → Type 0) (parts : List (ℕ × Part)) → runner ≡ App n → place ≡ place_of d (part.cell n) → (is : Kept) → part_at parts place ≡ Some (kinds.Cell is) → P (App n) is
      → (k : Kept) → part_at parts (place_of d (own_part (runner_in runner))) ≡ Some (own_kind runner k) → P runner k
  as_cell P parts by at is there known =
      subst (λ (r : Runner). (k : Kept) → part_at parts (place_of d (own_part (runner_in r))) ≡ Some (own_kind r k) → P r k) (sym by)
      (λ k here. subst (P (App n)) (same_cell (sym there ∙ ap (part_at parts) at ∙ here)) known)
    where
      cell_or : Option Part → Kept → Kept
      cell_or (Some (kinds.Cell k)) other = k
      cell_or (Some (kinds.Desk x)) other = other
      cell_or (Some (kinds.Input x)) other = other
      cell_or (Some (kinds.Looper x)) other = other
      cell_or (Some (kinds.Port x)) other = other
      cell_or (Some (kinds.Link x)) other = other
      cell_or (Some (kinds.Pane x)) other = other
      cell_or None other = other

      same_cell : {k l : Kept} → Some (kinds.Cell k) ≡ Some (kinds.Cell l) → k ≡ l
      same_cell {k} e = ap (λ o. cell_or o k) e

  pub as_looper : (P : Runner → Kept → Type 0) (parts : List (ℕ × Part)) → runner ≡ Looper n → place ≡ place_of d (part.looper n) → (is : Kept) → part_at parts place ≡ Some (kinds.Looper is) → P (Looper n) is
      → (k : Kept) → part_at parts (place_of d (own_part (runner_in runner))) ≡ Some (own_kind runner k) → P runner k
  as_looper P parts by at is there known =
      subst (λ (r : Runner). (k : Kept) → part_at parts (place_of d (own_part (runner_in r))) ≡ Some (own_kind r k) → P r k) (sym by)
      (λ k here. subst (P (Looper n)) (same_looper (sym there ∙ ap (part_at parts) at ∙ here)) known)
    where
      looper_or : Option Part → Kept → Kept
      looper_or (Some (kinds.Looper k)) other = k
      looper_or (Some (kinds.Desk x)) other = other
      looper_or (Some (kinds.Input x)) other = other
      looper_or (Some (kinds.Cell x)) other = other
      looper_or (Some (kinds.Port x)) other = other
      looper_or (Some (kinds.Link x)) other = other
      looper_or (Some (kinds.Pane x)) other = other
      looper_or None other = other

      same_looper : {k l : Kept} → Some (kinds.Looper k) ≡ Some (kinds.Looper l) → k ≡ l
      same_looper {k} e = ap (λ o. looper_or o k) e

  -- the part was changed, and is at another place
  pub gone_cell : (f : Runner → Slice → Slice) (to : Place) (old : Hand Part) (was is : Kept) → runner ≡ App n → place ≡ place_of d (part.cell n) → part_at old.parts place ≡ Some (kinds.Cell was) → is.slice ≡ app_at to (f (App n) was.slice) → is.log ≡ was.log → HasGoneFrom d runner (f runner) to old (hand_with old place (kinds.Cell is))
  gone_cell f to old was is by at there slice log = subst (λ (r : Runner). HasGoneFrom d r (f r) to old (hand_with old place (kinds.Cell is))) (sym by) (was, is, ap (part_at old.parts) (sym at) ∙ there, ap (λ p. hand_with old p (kinds.Cell is)) at, slice, log)

  pub gone_looper : (f : Runner → Slice → Slice) (to : Place) (old : Hand Part) (was is : Kept) → runner ≡ Looper n → place ≡ place_of d (part.looper n) → part_at old.parts place ≡ Some (kinds.Looper was) → is.slice ≡ looper_with (at_place to) (f (Looper n) was.slice) → is.log ≡ was.log → HasGoneFrom d runner (f runner) to old (hand_with old place (kinds.Looper is))
  gone_looper f to old was is by at there slice log = subst (λ (r : Runner). HasGoneFrom d r (f r) to old (hand_with old place (kinds.Looper is))) (sym by) (was, is, ap (part_at old.parts) (sym at) ∙ there, ap (λ p. hand_with old p (kinds.Looper is)) at, slice, log)
