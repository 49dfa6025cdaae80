-- Which panes an activation alters, and whether they are in hand.
use Rattle.std.proofs.Common.{◌≡◌, ℕ, zero, suc, ◌+◌, ◌<◌, List, [], ◌∷◌, length, Option, Some, None, Result, Ok, Err, ◌⊎◌, inl, inr, ⊎_elim, refl, sym, ap, ◌∙◌, subst, arith}
use Rattle.std.specs.Prelude.{MatchOption}
use Rattle.std.specs.List.{Contains}
use lib.ListN.{get_or}
use Rattle.std.proofs.lemmas.List.Elements.{at_read}
use Rattle.be_desk.specs.Affected.{AreAffected, OwnsTheSame}
use Rattle.be_desk.specs.Changes.{Desk, desk_after}
use Rattle.be_desk.specs.Desks.{IsTaken}
use Rattle.be_geom.specs.declared.change.Change.TheVariants.{Activate}
use Rattle.be_stack.specs.Windows.{Windows}
use Rattle.be_stack.specs.declared.fault.ChangeFault.{ChangeFault}
use Rattle.be_script.specs.Script.{Declared}
use Rattle.be_machine.specs.Touched as part
use Rattle.be_machine.proofs.Sizes.{IsAsLarge, IsAsMany, KeepsCounts, as_many, desk_sizes}
use Rattle.be_parts.specs.declared.part.Part.{Part}
use Rattle.be_rules.specs.Far.{IsAltered, windows_behind, windows_or}
use Rattle.be_rules.proofs.Cut.{owner_there}
use Rattle.be_rules.proofs.Spots.{changes_hands}
use Rattle.be_asking.specs.Finding.{IsInHand}
use Rattle.be_asking.specs.Using.{AreInHand, AreWindows, HasMissing, HasStirred, IsStirred, LacksStirred}

-- ---- window by window

same_default : (xs : List ℕ) (i a b : ℕ) → i < length xs → get_or xs i a ≡ get_or xs i b
same_default [] i a b lt = absurd (omega arith)
same_default (x ∷ xs) zero a b lt = refl
same_default (x ∷ xs) (suc i) a b lt = same_default xs i a b (omega arith)

-- those of the first so many are in hand
abbrev pub AreThere : Declared → List (ℕ × Part) → List ℕ → ℕ → Type 0
AreThere d parts names n = (k z : ℕ) → k < n → IsInHand d parts (part.pane (get_or names k z))

module _ (d : Declared) (parts : List (ℕ × Part)) (names : List ℕ) (i : ℕ) (lt : i < length names) where
  abbrev u : ℕ
  u = get_or names i 0

  here : u ≡ get_or names i u
  here = same_default names i 0 u lt

  pub name_there : Contains names u
  name_there = (i, lt, sym here)

  pub one_more : AreThere d parts names i → IsInHand d parts (part.pane u) → AreThere d parts names (i + 1)
  one_more so_far has k z below = by (split k i below)
    where
      split : (k i : ℕ) → k < i + 1 → (k < i) ⊎ (k ≡ i)
      split zero zero h = inr refl
      split zero (suc i) h = inl (omega arith)
      split (suc k) zero h = absurd (omega arith)
      split (suc k) (suc i) h = ⊎_elim (λ less. inl (omega (arith, less))) (λ same. inr (ap suc same)) (split k i (omega (arith, h)))

      by : (k < i) ⊎ (k ≡ i) → IsInHand d parts (part.pane (get_or names k z))
      by (inl less) = so_far k z less
      by (inr same) = subst (λ j. IsInHand d parts (part.pane (get_or names j z))) (sym same) (at_read names (λ v. IsInHand d parts (part.pane v)) i u lt here has z)

pub all_there : (d : Declared) (parts : List (ℕ × Part)) (names : List ℕ) → AreThere d parts names (length names) → AreInHand d parts names
all_there d parts names each u has = subst (λ v. IsInHand d parts (part.pane v)) has.2 (each has.0 u has.1)

-- ---- the windows behind the activation

as_large : (desk : Desk) (w : ℕ) → IsAsLarge desk.windows (windows_behind desk w Activate)
as_large desk w = by_result (desk_after desk w Activate) (desk_sizes desk w Activate)
  where
    by_result : (r : Result Desk ChangeFault) → KeepsCounts desk r → IsAsLarge desk.windows (windows_or desk.windows r)
    by_result (Ok new) is = is.sizes
    by_result (Err f) is = let same : IsAsMany desk desk = as_many desk in same.sizes

-- one that is altered is there
pub stirred_below : (desk : Desk) (w u n : ℕ) → length desk.windows.windows ≡ n → w < n → IsStirred desk w u → u < n
stirred_below desk w u n many lt (inl same) = subst (λ k. k < n) (sym same) lt
stirred_below desk w u n many lt (inr altered) =
    let large : IsAsLarge desk.windows (windows_behind desk w Activate) = as_large desk w in
    let pixel = changes_hands desk.windows (windows_behind desk w Activate) large.width large.height u altered in
    let long : length (windows_behind desk w Activate).windows ≡ n = large.windows ∙ many in
    ⊎_elim (λ before. subst (λ k. u < k) many (owner_there desk.windows pixel.0 pixel.1 u before))
    (λ then. subst (λ k. u < k) long (owner_there (windows_behind desk w Activate) pixel.0 pixel.1 u then)) pixel.2

module _ (desk : Desk) (w : ℕ) (names : List ℕ) (taken : IsTaken (desk_after desk w Activate)) (named : (after : Desk) → desk_after desk w Activate ≡ Ok after → AreAffected desk.windows after.windows w names) where
  after_is : (r : Result Desk ChangeFault) → desk_after desk w Activate ≡ r → IsTaken r → (after : Desk) × (desk_after desk w Activate ≡ Ok after)
  after_is (Ok after) is t = (after, is)
  after_is (Err f) is t = absurd t

  abbrev after : (x : Desk) × (desk_after desk w Activate ≡ Ok x)
  after = after_is (desk_after desk w Activate) refl taken

  windows_are : windows_behind desk w Activate ≡ after.0.windows
  windows_are = ap (windows_or desk.windows) after.1

  pub name_stirred : (u : ℕ) → Contains names u → IsStirred desk w u
  name_stirred u has =
      ⊎_elim (λ same. inl same) (λ other. inr (subst (λ (ws : Windows). OwnsTheSame desk.windows ws u → ⊥) (sym windows_are) other)) (((named after.0 after.1).named u).0 has)

  pub stirred_named : (u : ℕ) → IsStirred desk w u → Contains names u
  stirred_named u (inl same) = ((named after.0 after.1).named u).1 (inl same)
  stirred_named u (inr altered) = ((named after.0 after.1).named u).1 (inr (subst (λ (ws : Windows). OwnsTheSame desk.windows ws u → ⊥) windows_are altered))

-- where the window can't be activated nothing is altered
module _ (desk : Desk) (w : ℕ) (f : ChangeFault) (refused : desk_after desk w Activate ≡ Err f) where
  none_altered : (u : ℕ) → IsAltered desk w Activate u → ⊥
  none_altered u altered =
      let same : windows_behind desk w Activate ≡ desk.windows = ap (windows_or desk.windows) refused in
      subst (λ (ws : Windows). OwnsTheSame desk.windows ws u → ⊥) same altered (λ x y. refl)

  pub alone_named : (u : ℕ) → IsStirred desk w u → Contains (w ∷ []) u
  alone_named u (inl same) = let one : 0 < length (w ∷ []) = omega arith in (0, one, sym same)
  alone_named u (inr altered) = absurd (none_altered u altered)

-- ---- all panes

pub by_option : (o : Option ℕ) (P R : Type 0) (Q S : ℕ → Type 0) → (P → R) → ((n : ℕ) → Q n → S n) → MatchOption o P Q → MatchOption o R S
by_option (Some n) P R Q S none some h = some n h
by_option None P R Q S none some h = none h

module _ (d : Declared) (parts : List (ℕ × Part)) (desk : Desk) (w : ℕ) (names : List ℕ) (there : (u : ℕ) → Contains names u → IsStirred desk w u) where
  pub names_below : length desk.windows.windows ≡ length d.windows → w < length d.windows → AreWindows d names
  names_below many lt u has = stirred_below desk w u (length d.windows) many lt (there u has)

  pub has_stirred : ((u : ℕ) → IsStirred desk w u → Contains names u) → AreInHand d parts names → HasStirred d parts desk w
  has_stirred named each u stirred = each u (named u stirred)

  pub lacks_stirred : length desk.windows.windows ≡ length d.windows → w < length d.windows → (place : ℕ) → HasMissing d parts names place → LacksStirred d parts desk w place
  lacks_stirred many lt place (u, has, gone) = record { window = u; stirred = there u has; below = names_below many lt u has; missing = gone }
