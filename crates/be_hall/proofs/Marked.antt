-- Lists of marks, and which view has a place marked.
use Rattle.std.proofs.Common.{◌≡◌, ℕ, suc, ◌≢◌, ◌⊎◌, inl, inr, List, [], ◌∷◌, ◌++◌, map, length, set, sym, refl, ap, ◌∙◌, subst, ⊎_elim, arith}
use mathlib.Core.Logic.{dite}
use mathlib.Core.Option.{some, some-injective}
use native.Mathlib.Decide.{ℕ_discrete}
use lib.ListN.{get_elem?}
use Rattle.atomic_table.proofs.Lists.{set_here, set_else}
use Rattle.be_hall.specs.declared.view.View.{View}
use Rattle.be_hall.specs.declared.view.Mark.{Mark}
use Rattle.be_hall.specs.Views.{Has, HasPlace, but_last}
use Rattle.be_hall.specs.Rule.{HoldsMark}
use Rattle.be_hall.proofs.Growth.{inside, tail_of, head_or}

module _ {M E : Type 0} where
  pub has_snoc : (xs : List (Mark M E)) (y z : Mark M E) → Has (xs ++ y ∷ []) z → Has xs z ⊎ (y ≡ z)
  has_snoc [] y z h = ⊎_elim (λ t. inr t) (λ e. absurd e) h
  has_snoc (x ∷ xs) y z h = ⊎_elim (λ t. inl (inl t)) (λ t. ⊎_elim (λ u. inl (inr u)) (λ u. inr u) (has_snoc xs y z t)) h

  pub has_left : (xs : List (Mark M E)) (y z : Mark M E) → Has xs z → Has (xs ++ y ∷ []) z
  has_left [] y z h = absurd h
  has_left (x ∷ xs) y z h = ⊎_elim (λ t. inl t) (λ t. inr (has_left xs y z t)) h

  pub has_last : (xs : List (Mark M E)) (y : Mark M E) → Has (xs ++ y ∷ []) y
  has_last [] y = inl refl
  has_last (x ∷ xs) y = inr (has_last xs y)

  pub but_last_snoc : (xs : List (Mark M E)) (y : Mark M E) → but_last (xs ++ y ∷ []) ≡ xs
  but_last_snoc [] y = refl
  but_last_snoc (x ∷ []) y = refl
  but_last_snoc (x ∷ z ∷ zs) y = ap (λ (l : List (Mark M E)). x ∷ l) (but_last_snoc (z ∷ zs) y)

  -- a place that isn't the last one is among the others
  pub place_before : (xs : List (Mark M E)) (y : Mark M E) (p : ℕ) → p ≢ y.place → HasPlace (xs ++ y ∷ []) p → HasPlace xs p
  place_before xs y p other h = ⊎_elim (λ t. (h.0, t, h.2)) (λ (t : y ≡ h.0). absurd (other (sym (ap (λ (m : Mark M E). m.place) t ∙ h.2)))) (has_snoc xs y h.0 h.1)

  -- marks of the same places have the same places
  pub has_by_places : (ys zs : List (Mark M E)) (p : ℕ) → map (λ y. y.place) zs ≡ map (λ y. y.place) ys → HasPlace ys p → HasPlace zs p
  has_by_places [] zs p e h = absurd h.1
  has_by_places (y ∷ ys) [] p e h = let n : 0 ≡ suc (length (map (λ (m : Mark M E). m.place) ys)) = ap length e in absurd (omega arith)
  has_by_places (y ∷ ys) (z ∷ zs) p e h = ⊎_elim
      (λ (t : y ≡ h.0). (z, inl refl, ap (head_or 0) e ∙ (ap (λ (m : Mark M E). m.place) t ∙ h.2)))
      (λ t. let r = has_by_places ys zs p (ap tail_of e) (h.0, t, h.2) in (r.0, inr r.1, r.2))
      h.1

module _ {P M E : Type 0} where
  -- the view id becomes w, which still has the place marked where the view had it
  pub held_renewed : (views : List (View P M E)) (id : ℕ) (v w : View P M E) (p j : ℕ) → get_elem? views id ≡ some v → (HasPlace v.marks p → HasPlace w.marks p) → HoldsMark views j p → HoldsMark (set views id w) j p
  held_renewed views id v w p j at keeps h = dite (ℕ_discrete j id)
      (λ is. let same : h.0 ≡ v = some-injective h.0 v (sym h.1 ∙ (ap (get_elem? views) is ∙ at)) in
      (w, ap (get_elem? (set views id w)) is ∙ set_here views id w (inside views id v at), keeps (subst (λ (u : View P M E). HasPlace u.marks p) same h.2)))
      (λ other. (h.0, set_else views id j w other ∙ h.1, h.2))
