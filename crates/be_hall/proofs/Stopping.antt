-- The stop word.
use Rattle.std.proofs.Common.{rules, ◌≡◌, ℕ, ◌≢◌, inl, inr, true, false, List, [], ◌∷◌, ◌++◌, set, sym, refl, ap, ◌∙◌, ⊎_elim}
use Rattle.std.proofs.lemmas.Bool.{or_right, or_left}
use mathlib.Core.Logic.{dite}
use mathlib.Core.Option.{some, some-injective}
use native.Mathlib.Decide.{ℕ_discrete}
use lib.ListN.{get_elem?}
use Rattle.atomic_table.proofs.Lists.{at_set, at_snoc, at_longer, set_here, set_else}
use Rattle.be_facts.proofs.Truths.{or_either}
use Rattle.be_hall.specs.declared.view.View.{View}
use Rattle.be_hall.specs.Views.{parted, parting, joined, spent, raising, hearing}
use Rattle.be_hall.specs.Stop.{Stops}
use Rattle.be_hall.proofs.Growth.{inside}

untrue : {A : Type 0} → false ≡ true → A
untrue e = absurd (grind rules)

module _ {P M E : Type 0} where
  -- one view changes, and says of stop what it said before
  pub stop_set : (word word' : ℕ) (views : List (View P M E)) (id : ℕ) (v w : View P M E) → word' ≡ word → get_elem? views id ≡ some v → w.raised ≡ v.raised → w.knows ≡ v.knows → Stops word views → Stops word' (set views id w)
  stop_set word word' views id v w same at raised knows s = record {
    bit = ⊎_elim (λ z. inl (same ∙ z)) (λ o. inr (same ∙ o)) s.bit;
    told = λ j u e says. same ∙ ⊎_elim
        (λ (t : (j ≡ id) × (w ≡ u)). s.told id v at (⊎_elim (λ r. inl (sym raised ∙ (ap (λ (z : View P M E). z.raised) t.1 ∙ r))) (λ k. inr (sym knows ∙ (ap (λ (z : View P M E). z.knows) t.1 ∙ k))) says))
        (λ (t : (j ≢ id) × (get_elem? views j ≡ some u)). s.told j u t.1 says)
        (at_set views id j w u e);
    raiser = λ one. let r = s.raiser (sym same ∙ one) in dite (ℕ_discrete r.0 id)
        (λ is. let it : r.1 ≡ v = some-injective r.1 v (sym r.2 ∙ (ap (get_elem? views) is ∙ at)) in (id, w, set_here views id w (inside views id v at), raised ∙ (ap (λ (z : View P M E). z.raised) (sym it) ∙ r.3)))
        (λ other. (r.0, r.1, set_else views id r.0 w other ∙ r.2, r.3));
  }

  pub stop_raised : (word word' : ℕ) (views : List (View P M E)) (id : ℕ) (v : View P M E) → word' ≡ 1 → get_elem? views id ≡ some v → Stops word' (set views id (raising v))
  stop_raised word word' views id v one at = record {
    bit = inr one;
    told = λ j u e says. one;
    raiser = λ is. (id, raising v, set_here views id (raising v) (inside views id v at), refl);
  }

  pub stop_heard : (word word' : ℕ) (views : List (View P M E)) (id : ℕ) (v : View P M E) → word' ≡ word → word ≡ 1 → get_elem? views id ≡ some v → Stops word views → Stops word' (set views id (hearing v))
  stop_heard word word' views id v same one at s = record {
    bit = inr (same ∙ one);
    told = λ j u e says. same ∙ one;
    raiser = λ is. let r = s.raiser one in dite (ℕ_discrete r.0 id)
        (λ here. let it : r.1 ≡ v = some-injective r.1 v (sym r.2 ∙ (ap (get_elem? views) here ∙ at)) in (id, hearing v, set_here views id (hearing v) (inside views id v at), ap (λ (z : View P M E). z.raised) (sym it) ∙ r.3))
        (λ other. (r.0, r.1, set_else views id r.0 (hearing v) other ∙ r.2, r.3));
  }

  pub stop_parted : (word : ℕ) (views : List (View P M E)) (id : ℕ) (v : View P M E) → get_elem? views id ≡ some v → Stops word views → Stops word (set views id (parting v) ++ parted v ∷ [])
  stop_parted word views id v at s =
      let first : Stops word (set views id (parting v)) = stop_set word word views id v (parting v) refl at refl refl s in record {
        bit = first.bit;
        told = λ j u e says. ⊎_elim (λ old. first.told j u old says)
            (λ (t : parted v ≡ u). ⊎_elim (λ r. untrue (ap (λ (z : View P M E). z.raised) t ∙ r)) (λ k. untrue (ap (λ (z : View P M E). z.knows) t ∙ k)) says) (at_snoc (set views id (parting v)) (parted v) u j e);
        raiser = λ one. let r = first.raiser one in (r.0, r.1, at_longer (set views id (parting v)) (parted v ∷ []) r.0 r.1 r.2, r.3);
      }

  pub stop_joined : (word : ℕ) (views : List (View P M E)) (id other : ℕ) (v w : View P M E) → get_elem? views id ≡ some v → other ≢ id → get_elem? views other ≡ some w → Stops word views → Stops word (set (set views id (joined v w)) other spent)
  stop_joined word views id other v w at apart there s =
      let vs : List (View P M E) = set views id (joined v w) in
      let mine : get_elem? (set vs other spent) id ≡ some (joined v w) = set_else vs other id spent (λ e. apart (sym e)) ∙ set_here views id (joined v w) (inside views id v at) in record {
        bit = s.bit;
        told = λ j u e says. ⊎_elim
            (λ (t : (j ≡ other) × (spent ≡ u)). ⊎_elim (λ r. untrue (ap (λ (z : View P M E). z.raised) t.1 ∙ r)) (λ k. untrue (ap (λ (z : View P M E). z.knows) t.1 ∙ k)) says)
            (λ (t : (j ≢ other) × (get_elem? vs j ≡ some u)). ⊎_elim
            (λ (q : (j ≡ id) × (joined v w ≡ u)). ⊎_elim
            (λ r. ⊎_elim (λ a. s.told id v at (inl a)) (λ b. s.told other w there (inl b)) (or_either v.raised w.raised (ap (λ (z : View P M E). z.raised) q.1 ∙ r)))
            (λ k. ⊎_elim (λ a. s.told id v at (inr a)) (λ b. s.told other w there (inr b)) (or_either v.knows w.knows (ap (λ (z : View P M E). z.knows) q.1 ∙ k)))
            says)
            (λ (q : (j ≢ id) × (get_elem? views j ≡ some u)). s.told j u q.1 says)
            (at_set views id j (joined v w) u t.1))
            (at_set vs other j spent u e);
        raiser = λ one. let r = s.raiser one in dite (ℕ_discrete r.0 id)
            (λ is. let it : r.1 ≡ v = some-injective r.1 v (sym r.2 ∙ (ap (get_elem? views) is ∙ at)) in (id, joined v w, mine, or_left v.raised w.raised (ap (λ (z : View P M E). z.raised) (sym it) ∙ r.3)))
            (λ not_id. dite (ℕ_discrete r.0 other)
            (λ is. let it : r.1 ≡ w = some-injective r.1 w (sym r.2 ∙ (ap (get_elem? views) is ∙ there)) in (id, joined v w, mine, or_right v.raised w.raised (ap (λ (z : View P M E). z.raised) (sym it) ∙ r.3)))
            (λ not_other. (r.0, r.1, set_else vs other r.0 spent not_other ∙ (set_else views id r.0 (joined v w) not_id ∙ r.2), r.3)));
      }
