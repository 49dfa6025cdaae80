-- What each step leaves true of which passes there are, and that a pass that stands for all of them is alone.
use Rattle.std.proofs.Common.{◌≡◌, ℕ, zero, suc, ◌+◌, ◌<◌, ◌==◌, ◌≢◌, List, [], ◌∷◌, ◌++◌, length, set, sym, refl, ap, ◌∙◌, subst, ⊎_elim, arith, eq-eqb, ne_eqb, if◌then◌else◌}
use mathlib.Core.Logic.{dite}
use mathlib.Core.Option.{some}
use native.Mathlib.Decide.{ℕ_discrete}
use lib.ListN.{get_elem?}
use Rattle.atomic_table.proofs.Lists.{at_set, at_snoc, set_else}
use Rattle.be_hall.specs.declared.view.Branch.{Branch}
use Rattle.be_hall.specs.declared.view.View.{View}
use Rattle.be_hall.specs.Branches.{branch, deep, split_off, parting_branches, parted_branches}
use Rattle.be_hall.specs.Numbers.{one_if, total}
use Rattle.be_hall.specs.Views.{HasPlace, joined, parted, parting, spent}
use Rattle.be_hall.specs.Misses.{Family, IsAlone}
use Rattle.be_hall.proofs.Growth.{total_set}
use Rattle.be_hall.proofs.Sums.{total_append, total_inside, total_where_none}

-- ---- one pass and another that is split off it

one_deeper : (n d : ℕ) → one_if (n + 1) (d + 1) ≡ one_if n d
one_deeper n d = dite (ℕ_discrete n d)
    (λ is. ap (λ t. if t then 1 else 0) (eq-eqb (n + 1) (d + 1) (omega arith)) ∙ sym (ap (λ t. if t then 1 else 0) (eq-eqb n d is)))
    (λ not. ap (λ t. if t then 1 else 0) (ne_eqb (n + 1) (d + 1) (λ e. not (omega arith))) ∙ sym (ap (λ t. if t then 1 else 0) (ne_eqb n d not)))

none_at_first : (n : ℕ) → one_if (n + 1) 0 ≡ 0
none_at_first n = ap (λ t. if t then 1 else 0) (ne_eqb (n + 1) 0 (λ e. absurd (omega arith)))

-- one more at this depth counts where its depth is asked for
one_more : (n d k : ℕ) → (if n == d then k + 1 else 0) ≡ (if n == d then k else 0) + one_if n d
one_more n d k = dite (ℕ_discrete n d)
    (λ is. let e = eq-eqb n d is in
    ap (λ t. if t then k + 1 else 0) e ∙ sym (ap (λ t. (if t then k else 0) + (if t then 1 else 0)) e))
    (λ not. let e = ne_eqb n d not in
    ap (λ t. if t then k + 1 else 0) e ∙ sym (ap (λ t. (if t then k else 0) + (if t then 1 else 0)) e))

-- nothing counts at no depth
abbrev nought : ℕ → ℕ → ℕ
nought n d = if n == d then 0 else 0

nothing_off : (n d : ℕ) → nought n d ≡ 0
nothing_off n d = dite (ℕ_discrete n d) (λ is. ap (λ t. if t then zero else zero) (eq-eqb n d is)) (λ not. ap (λ t. if t then zero else zero) (ne_eqb n d not))

none_below : (d : ℕ) → one_if 0 (d + 1) ≡ 0
none_below d = ap (λ t. if t then 1 else 0) (ne_eqb 0 (d + 1) (λ e. absurd (omega arith)))

-- nothing was split off the first pass yet
pub first_alone : (d : ℕ) → deep (d + 1) (branch 0 0 ∷ []) ≡ split_off d (branch 0 0 ∷ [])
first_alone d = let one = none_below d in let two = nothing_off 0 d in omega arith

deep_parting : (d : ℕ) (bs : List Branch) → deep d (parting_branches bs) ≡ deep d bs
deep_parting d [] = refl
deep_parting d (b ∷ bs) = refl

off_parting : (d : ℕ) (bs : List Branch) → split_off d (parting_branches bs) ≡ split_off d bs + deep (d + 1) (parted_branches bs)
off_parting d [] = refl
off_parting d (b ∷ bs) =
    let one = one_more b.depth d b.parted in
    let two = one_deeper b.depth d in
    omega arith

deep_first : (bs : List Branch) → deep 0 (parted_branches bs) ≡ 0
deep_first [] = refl
deep_first (b ∷ bs) = let none = none_at_first b.depth in omega arith

off_parted : (d : ℕ) (bs : List Branch) → split_off d (parted_branches bs) ≡ 0
off_parted d [] = refl
off_parted d (b ∷ bs) = let none = nothing_off (b.depth + 1) d in omega arith

parting_long : (bs : List Branch) → 0 < length bs → 0 < length (parting_branches bs)
parting_long [] h = absurd (omega arith)
parting_long (b ∷ bs) h = omega arith

pub longer_left : (bs cs : List Branch) → 0 < length bs → 0 < length (bs ++ cs)
longer_left [] cs h = absurd (omega arith)
longer_left (b ∷ bs) cs h = omega arith

-- where none lie so deep, none were split off there
none_off : (d : ℕ) (bs : List Branch) → deep d bs ≡ 0 → split_off d bs ≡ 0
none_off d [] none = refl
none_off d (b ∷ bs) none = dite (ℕ_discrete b.depth d)
    (λ is. let one : one_if b.depth d ≡ 1 = ap (λ t. if t then 1 else 0) (eq-eqb b.depth d is) in absurd (omega arith))
    (λ not.
    let here : (if b.depth == d then b.parted else 0) ≡ 0 = ap (λ t. if t then b.parted else 0) (ne_eqb b.depth d not) in
    let rest = none_off d bs (omega arith) in
    omega arith)

-- the first of them lies as deep as it does
some_deep : (b : Branch) (bs : List Branch) → 0 < deep b.depth (b ∷ bs)
some_deep b bs = let one : one_if b.depth b.depth ≡ 1 = ap (λ t. if t then 1 else 0) (eq-eqb b.depth b.depth refl) in omega arith

module _ {P M E : Type 0} where
  -- the sum over all views of what is counted in their branches
  abbrev sum : (List Branch → ℕ) → List (View P M E) → ℕ
  sum f views = total (λ v. f v.branches) views

  -- ---- the steps

  same_sum : (f : List Branch → ℕ) (views : List (View P M E)) (id : ℕ) (v w : View P M E) → get_elem? views id ≡ some v → w.branches ≡ v.branches → sum f (set views id w) ≡ sum f views
  same_sum f views id v w at same = let t = total_set (λ (u : View P M E). f u.branches) views id v w at in let e : f w.branches ≡ f v.branches = ap f same in omega arith

  -- the view becomes w, which stands for the same passes
  pub family_stays : (views : List (View P M E)) (id : ℕ) (v w : View P M E) → get_elem? views id ≡ some v → Family views → w.branches ≡ v.branches → ((p : ℕ) → HasPlace w.marks p → 0 < length w.branches) → Family (set views id w)
  family_stays views id v w at f same marks = record {
    first = same_sum (deep 0) views id v w at same ∙ f.first;
    each = λ d. same_sum (deep (d + 1)) views id v w at same ∙ (f.each d ∙ sym (same_sum (split_off d) views id v w at same));
    real = λ j u e p h. ⊎_elim
        (λ (t : (j ≡ id) × (w ≡ u)). subst (λ (z : View P M E). 0 < length z.branches) t.1 (marks p (subst (λ (z : View P M E). HasPlace z.marks p) (sym t.1) h)))
        (λ (t : (j ≢ id) × (get_elem? views j ≡ some u)). f.real j u t.1 p h)
        (at_set views id j w u e);
  }

  -- the same, where it has no mark at a place that it hadn't marked
  pub family_kept : (views : List (View P M E)) (id : ℕ) (v w : View P M E) → get_elem? views id ≡ some v → Family views → w.branches ≡ v.branches → ((p : ℕ) → HasPlace w.marks p → HasPlace v.marks p) → Family (set views id w)
  family_kept views id v w at f same marks = family_stays views id v w at f same
      (λ p h. subst (λ (bs : List Branch). 0 < length bs) (sym same) (f.real id v at p (marks p h)))

  pub family_parted : (views : List (View P M E)) (id : ℕ) (v : View P M E) → get_elem? views id ≡ some v → Family views → Family (set views id (parting v) ++ parted v ∷ [])
  family_parted views id v at f = record {
    first =
        let t = total_append (λ (u : View P M E). deep 0 u.branches) (set views id (parting v)) (parted v ∷ []) in
        let s = total_set (λ (u : View P M E). deep 0 u.branches) views id v (parting v) at in
        let one = deep_parting 0 v.branches in
        let two = deep_first v.branches in
        let was = f.first in
        omega arith;
    each = λ d.
        let t = total_append (λ (u : View P M E). deep (d + 1) u.branches) (set views id (parting v)) (parted v ∷ []) in
        let s = total_set (λ (u : View P M E). deep (d + 1) u.branches) views id v (parting v) at in
        let x = total_append (λ (u : View P M E). split_off d u.branches) (set views id (parting v)) (parted v ∷ []) in
        let y = total_set (λ (u : View P M E). split_off d u.branches) views id v (parting v) at in
        let one = deep_parting (d + 1) v.branches in
        let two = off_parting d v.branches in
        let three = off_parted d v.branches in
        let was = f.each d in
        omega arith;
    real = λ j u e p h. ⊎_elim
        (λ old. ⊎_elim
        (λ (t : (j ≡ id) × (parting v ≡ u)). subst (λ (z : View P M E). 0 < length z.branches) t.1 (parting_long v.branches (f.real id v at p (subst (λ (z : View P M E). HasPlace z.marks p) (sym t.1) h))))
        (λ (t : (j ≢ id) × (get_elem? views j ≡ some u)). f.real j u t.1 p h)
        (at_set views id j (parting v) u old))
        (λ (t : parted v ≡ u). absurd (subst (λ (z : View P M E). HasPlace z.marks p) (sym t) h).1)
        (at_snoc (set views id (parting v)) (parted v) u j e);
  }

  pub family_joined : (views : List (View P M E)) (id other : ℕ) (v w : View P M E) → get_elem? views id ≡ some v → other ≢ id → get_elem? views other ≡ some w → Family views → Family (set (set views id (joined v w)) other spent)
  family_joined views id other v w at apart there f =
      let both : View P M E = joined v w in
      let between : List (View P M E) = set views id both in
      let w_at : get_elem? between other ≡ some w = set_else views id other both apart ∙ there in
      let same : (g : Branch → ℕ) → total (λ (u : View P M E). total g u.branches) (set between other spent) ≡ total (λ (u : View P M E). total g u.branches) views = λ g.
      let one = total_set (λ (u : View P M E). total g u.branches) views id v both at in
      let two = total_set (λ (u : View P M E). total g u.branches) between other w spent w_at in
      let three = total_append g v.branches w.branches in
      omega arith in
      record {
        first = same (λ b. one_if b.depth 0) ∙ f.first;
        each = λ d. same (λ b. one_if b.depth (d + 1)) ∙ (f.each d ∙ sym (same (λ b. if b.depth == d then b.parted else 0)));
        real = λ j u e p h. ⊎_elim
            (λ (t : (j ≡ other) × (spent ≡ u)). absurd (subst (λ (z : View P M E). HasPlace z.marks p) (sym t.1) h).1)
            (λ (t : (j ≢ other) × (get_elem? between j ≡ some u)). ⊎_elim
            (λ (q : (j ≡ id) × (both ≡ u)). subst (λ (z : View P M E). 0 < length z.branches) q.1
            (longer_left v.branches w.branches (f.real id v at p (subst (λ (z : View P M E). HasPlace z.marks p) (sym q.1) h))))
            (λ (q : (j ≢ id) × (get_elem? views j ≡ some u)). f.real j u q.1 p h)
            (at_set views id j both u t.1))
            (at_set between other j spent u e);
      }

  -- ---- being alone

  -- beside a view that stands for all passes, no other one has any
  none_else : (views : List (View P M E)) (id : ℕ) (v : View P M E) → get_elem? views id ≡ some v → Family views → IsAlone v → (d : ℕ) → sum (deep d) (set views id spent) ≡ 0
  none_else views id v at f alone zero =
      let s = total_set (λ (u : View P M E). deep 0 u.branches) views id v spent at in
      let first = f.first in
      let mine = alone.0 in
      omega arith
  none_else views id v at f alone (suc d) =
      let deeper : suc d ≡ d + 1 = omega arith in
      let before = none_else views id v at f alone d in
      let off : sum (split_off d) (set views id spent) ≡ 0 = total_where_none (λ (u : View P M E). deep d u.branches) (λ (u : View P M E). split_off d u.branches) (λ u. none_off d u.branches) (set views id spent) before in
      let s = total_set (λ (u : View P M E). deep (d + 1) u.branches) views id v spent at in
      let t = total_set (λ (u : View P M E). split_off d u.branches) views id v spent at in
      let mine = alone.1 d in
      let each = f.each d in
      let r : sum (deep (d + 1)) (set views id spent) ≡ 0 = omega arith in
      ap (λ (n : ℕ). sum (deep n) (set views id spent)) deeper ∙ r

  no_branches : (views : List (View P M E)) (j : ℕ) (w : View P M E) → get_elem? views j ≡ some w → ((d : ℕ) → sum (deep d) views ≡ 0) → (bs : List Branch) → w.branches ≡ bs → 0 < length bs → ⊥
  no_branches views j w at none [] is long = absurd (omega arith)
  no_branches views j w at none (b ∷ bs) is long =
      let some_here = some_deep b bs in
      let here : deep b.depth w.branches ≡ deep b.depth (b ∷ bs) = ap (deep b.depth) is in
      let most = total_inside (λ (u : View P M E). deep b.depth u.branches) views j w at in
      let sum_none = none b.depth in
      absurd (omega arith)

  -- a view isn't alone beside another that stands for a pass
  pub not_alone : (views : List (View P M E)) (id : ℕ) (v : View P M E) → get_elem? views id ≡ some v → Family views → (j : ℕ) (w : View P M E) → j ≢ id → get_elem? views j ≡ some w → 0 < length w.branches → IsAlone v → ⊥
  not_alone views id v at f j w other there long alone =
      no_branches (set views id spent) j w (set_else views id j spent other ∙ there) (none_else views id v at f alone) w.branches refl long
