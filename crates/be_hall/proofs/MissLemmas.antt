-- What each step leaves true of missed places.
use Rattle.std.proofs.Common.{◌≡◌, ℕ, zero, suc, ◌≢◌, ◌⊎◌, inl, inr, List, [], ◌∷◌, ◌++◌, map, set, sym, refl, ap, ◌∙◌, subst, ⊎_elim}
use mathlib.Core.Logic.{dite}
use mathlib.Core.Option.{some, some-injective, some-ne-none}
use native.Mathlib.Decide.{ℕ_discrete}
use lib.ListN.{get_elem?}
use Rattle.atomic_table.proofs.Lists.{at_set, at_snoc, at_longer, set_here, set_else}
use Rattle.be_hall.specs.declared.view.View.{View}
use Rattle.be_hall.specs.declared.view.Mark.{Mark}
use Rattle.be_hall.specs.Views.{Has, HasPlace, but_last, committing, joined, letting_go, marking, missing, parted, parting, spent}
use Rattle.be_hall.specs.Misses.{IsNamed, IsHadElsewhere, Misses}
use Rattle.be_hall.proofs.Growth.{inside}
use Rattle.be_hall.proofs.Marked.{has_by_places, has_snoc}

named_left : (ps qs : List ℕ) (p : ℕ) → IsNamed ps p → IsNamed (ps ++ qs) p
named_left [] qs p h = absurd h
named_left (x ∷ xs) qs p h = ⊎_elim (λ is. inl is) (λ later. inr (named_left xs qs p later)) h

named_right : (ps qs : List ℕ) (p : ℕ) → IsNamed qs p → IsNamed (ps ++ qs) p
named_right [] qs p h = h
named_right (x ∷ xs) qs p h = inr (named_right xs qs p h)

named_snoc : (ps : List ℕ) (q p : ℕ) → IsNamed (ps ++ q ∷ []) p → IsNamed ps p ⊎ (q ≡ p)
named_snoc [] q p h = ⊎_elim (λ is. inr is) (λ never. absurd never) h
named_snoc (x ∷ xs) q p h = ⊎_elim (λ is. inl (inl is)) (λ later. ⊎_elim (λ old. inl (inr old)) (λ new. inr new) (named_snoc xs q p later)) h

pub has_before : {M E : Type 0} (xs : List (Mark M E)) (y : Mark M E) → Has (but_last xs) y → Has xs y
has_before [] y h = absurd h
has_before (x ∷ []) y h = absurd h
has_before (x ∷ z ∷ zs) y h = ⊎_elim (λ is. inl is) (λ later. inr (has_before (z ∷ zs) y later)) h

module _ {P M E : Type 0} where
  module _ (views : List (View P M E)) (id : ℕ) (v w : View P M E) (at : get_elem? views id ≡ some v) (m : Misses views) (had_grows : (p : ℕ) → IsNamed v.had p → IsNamed w.had p) (met_grows : (p : ℕ) → IsNamed v.met p → IsNamed w.met p) where
    moved : (k p : ℕ) → IsHadElsewhere views k p → IsHadElsewhere (set views id w) k p
    moved k p h = dite (ℕ_discrete h.0 id)
        (λ is.
        let same : h.1 ≡ v = some-injective h.1 v (sym h.3 ∙ (ap (get_elem? views) is ∙ at)) in (
          h.0,
          w,
          h.2,
          ap (get_elem? (set views id w)) is ∙ set_here views id w (inside views id v at),
          ⊎_elim (λ n. inl (had_grows p (subst (λ (u : View P M E). IsNamed u.had p) same n))) (λ n. inr (met_grows p (subst (λ (u : View P M E). IsNamed u.met p) same n))) h.4,
        ))
        (λ other. (h.0, h.1, h.2, set_else views id h.0 w other ∙ h.3, h.4))

    -- the view becomes w, which had and met as much
    grown : ((p : ℕ) → HasPlace w.marks p → IsNamed w.had p) → ((p : ℕ) → IsNamed w.missed p → IsNamed v.missed p ⊎ IsHadElsewhere views id p) → Misses (set views id w)
    grown own miss = record {
      had = λ j u e p h. ⊎_elim
          (λ (t : (j ≡ id) × (w ≡ u)). subst (λ (z : View P M E). IsNamed z.had p) t.1 (own p (subst (λ (z : View P M E). HasPlace z.marks p) (sym t.1) h)))
          (λ (t : (j ≢ id) × (get_elem? views j ≡ some u)). m.had j u t.1 p h)
          (at_set views id j w u e);
      missed = λ j u e p h. ⊎_elim
          (λ (t : (j ≡ id) × (w ≡ u)).
          let r : IsNamed w.met p ⊎ IsHadElsewhere (set views id w) id p = ⊎_elim
          (λ old. ⊎_elim (λ met. inl (met_grows p met)) (λ else. inr (moved id p else)) (m.missed id v at p old))
          (λ new. inr (moved id p new))
          (miss p (subst (λ (z : View P M E). IsNamed z.missed p) (sym t.1) h)) in
          subst (λ (z : ℕ × View P M E). IsNamed z.1.met p ⊎ IsHadElsewhere (set views id w) z.0 p) (λ i. (sym t.0 i, t.1 i)) r)
          (λ (t : (j ≢ id) × (get_elem? views j ≡ some u)). ⊎_elim (λ met. inl met) (λ else. inr (moved j p else)) (m.missed j u t.1 p h))
          (at_set views id j w u e);
    }

  module _ (views : List (View P M E)) (id : ℕ) (v : View P M E) (at : get_elem? views id ≡ some v) (m : Misses views) where
    -- it marks, misses and meets as much as before
    pub still_missed : (w : View P M E) → w.marks ≡ v.marks → w.had ≡ v.had → w.met ≡ v.met → w.missed ≡ v.missed → Misses (set views id w)
    still_missed w marks had met missed = grown views id v w at m
        (λ p n. subst (λ (l : List ℕ). IsNamed l p) (sym had) n)
        (λ p n. subst (λ (l : List ℕ). IsNamed l p) (sym met) n)
        (λ p h. subst (λ (l : List ℕ). IsNamed l p) (sym had) (m.had id v at p (subst (λ (l : List (Mark M E)). HasPlace l p) marks h)))
        (λ p n. inl (subst (λ (l : List ℕ). IsNamed l p) missed n))

    pub marked_more : (y : Mark M E) → Misses (set views id (marking v y))
    marked_more y = grown views id v (marking v y) at m
        (λ p n. named_left v.had (y.place ∷ []) p n)
        (λ p n. n)
        (λ p h. ⊎_elim (λ old. named_left v.had (y.place ∷ []) p (m.had id v at p (h.0, old, h.2))) (λ (new : y ≡ h.0). named_right v.had (y.place ∷ []) p (inl (ap (λ (z : Mark M E). z.place) new ∙ h.2))) (has_snoc v.marks y h.0 h.1))
        (λ p n. inl n)

    -- another pass had the place that it misses
    pub missed_more : (q : ℕ) → IsHadElsewhere views id q → Misses (set views id (missing v q))
    missed_more q else = grown views id v (missing v q) at m (λ p n. n) (λ p n. n) (λ p h. m.had id v at p h)
        (λ p n. ⊎_elim (λ old. inl old) (λ (new : q ≡ p). inr (subst (λ (k : ℕ). IsHadElsewhere views id k) new else)) (named_snoc v.missed q p n))

    pub marked_less : Misses (set views id (letting_go v))
    marked_less = grown views id v (letting_go v) at m (λ p n. n) (λ p n. n) (λ p h. m.had id v at p (h.0, has_before v.marks h.0 h.1, h.2)) (λ p n. inl n)

    pub same_marked : (n : ℕ) (e : E) (ys : List (Mark M E)) → map (λ y. y.place) ys ≡ map (λ y. y.place) v.marks → Misses (set views id (committing v n e ys))
    same_marked n e ys same = grown views id v (committing v n e ys) at m (λ p k. k) (λ p k. k) (λ p h. m.had id v at p (has_by_places ys v.marks p (sym same) h)) (λ p k. inl k)

    pub missed_parted : Misses (set views id (parting v) ++ parted v ∷ [])
    missed_parted =
        let first : Misses (set views id (parting v)) = still_missed (parting v) refl refl refl refl in
        let before : List (View P M E) = set views id (parting v) in
        record {
          had = λ j u e p h. ⊎_elim (λ old. first.had j u old p h) (λ (t : parted v ≡ u). absurd (subst (λ (z : View P M E). HasPlace z.marks p) (sym t) h).1) (at_snoc before (parted v) u j e);
          missed = λ j u e p h. ⊎_elim
              (λ old. ⊎_elim (λ met. inl met) (λ else. inr (else.0, else.1, else.2, at_longer before (parted v ∷ []) else.0 else.1 else.3, else.4)) (first.missed j u old p h))
              (λ (t : parted v ≡ u). absurd (subst (λ (z : View P M E). IsNamed z.missed p) (sym t) h))
              (at_snoc before (parted v) u j e);
        }

  -- a view whose places another one has met goes out
  gone : (views : List (View P M E)) (id other : ℕ) (v w : View P M E) → get_elem? views id ≡ some v → other ≢ id → get_elem? views other ≡ some w → ((p : ℕ) → IsNamed w.had p ⊎ IsNamed w.met p → IsNamed v.met p) → Misses views → Misses (set views other spent)
  gone views id other v w at apart there meets m = record {
    had = λ j u e p h. ⊎_elim
        (λ (t : (j ≡ other) × (spent ≡ u)). absurd (subst (λ (z : View P M E). HasPlace z.marks p) (sym t.1) h).1)
        (λ (t : (j ≢ other) × (get_elem? views j ≡ some u)). m.had j u t.1 p h)
        (at_set views other j spent u e);
    missed = λ j u e p h. ⊎_elim
        (λ (t : (j ≡ other) × (spent ≡ u)). absurd (subst (λ (z : View P M E). IsNamed z.missed p) (sym t.1) h))
        (λ (t : (j ≢ other) × (get_elem? views j ≡ some u)). ⊎_elim
        (λ met. inl met)
        (λ else. dite (ℕ_discrete else.0 other)
        (λ is.
        let same : else.1 ≡ w = some-injective else.1 w (sym else.3 ∙ (ap (get_elem? views) is ∙ there)) in
        let met : IsNamed v.met p = meets p (subst (λ (z : View P M E). IsNamed z.had p ⊎ IsNamed z.met p) same else.4) in
        dite (ℕ_discrete id j)
        (λ mine. let it : v ≡ u = some-injective v u (sym at ∙ (ap (get_elem? views) mine ∙ t.1)) in inl (subst (λ (z : View P M E). IsNamed z.met p) it met))
        (λ not_mine. inr (id, v, not_mine, set_else views other id spent (λ k. apart (sym k)) ∙ at, inr met)))
        (λ not_other. inr (else.0, else.1, else.2, set_else views other else.0 spent not_other ∙ else.3, else.4)))
        (m.missed j u t.1 p h))
        (at_set views other j spent u e);
  }

  pub missed_joined : (views : List (View P M E)) (id other : ℕ) (v w : View P M E) → get_elem? views id ≡ some v → other ≢ id → get_elem? views other ≡ some w → Misses views → Misses (set (set views id (joined v w)) other spent)
  missed_joined views id other v w at apart there m =
      let first : Misses (set views id (joined v w)) = grown views id v (joined v w) at m (λ p n. n) (λ p n. named_left v.met (w.had ++ w.met) p n) (λ p h. m.had id v at p h) (λ p n. inl n) in
      gone (set views id (joined v w)) id other (joined v w) w (set_here views id (joined v w) (inside views id v at)) apart (set_else views id other (joined v w) apart ∙ there)
      (λ p h. named_right v.met (w.had ++ w.met) p (⊎_elim (λ n. named_left w.had w.met p n) (λ n. named_right w.had w.met p n) h)) first

  -- a pass that is alone, and into which none was joined, has missed nothing
  pub alone_misses_nothing : (v : View P M E) (p : ℕ) → Misses (v ∷ []) → v.met ≡ [] → IsNamed v.missed p → ⊥
  alone_misses_nothing v p m none_met h = ⊎_elim
      (λ met. subst (λ (l : List ℕ). IsNamed l p) none_met met)
      (λ else. nobody else.0 else.1 else.2 else.3)
      (m.missed 0 v refl p h)
    where
      nobody : (j : ℕ) (w : View P M E) → j ≢ 0 → get_elem? (v ∷ []) j ≡ some w → ⊥
      nobody zero w other e = other refl
      nobody (suc j) w other e = absurd (some-ne-none w (sym e))
