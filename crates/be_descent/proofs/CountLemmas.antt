-- How many views lie in which.
use Rattle.std.specs.Prelude.{nat_lt, slice_get, count_by, option_and_then}
use Rattle.std.proofs.Common.{◌≡◌, ℕ, ◌+◌, ◌≤◌, zero, suc, Bool, false, cond, List, [], ◌∷◌}
use Rattle.std.proofs.Common.{Option, Some, None, drop, arith, refl, ap, ◌∙◌}
use Rattle.std.proofs.lemmas.Bool.Decides.{nat_tests}
use Rattle.std.proofs.lemmas.List.Sums.{count_by-le-length, sum_by-cons}
use Rattle.be_geom.specs.Numbers.{is_number}
use Rattle.be_views.specs.Trees.{Tree, View, parent_of, passes_parent}
use Rattle.be_views.specs.Whole.{AreParentsFirst, IsTree}
use Rattle.be_descent.specs.Fronts.{lying, lying_below}

-- whether a view's parent has a lower number
abbrev below : ℕ → View → Bool
below v view = passes_parent (λ parent. nat_lt parent v) view.parent

abbrev one_if : Bool → ℕ
one_if b = cond b 1 0

count_cons : (p : View → Bool) (view : View) (views : List View)
    → count_by p (view ∷ views) ≡ one_if (p view) + count_by p views
count_cons p view views = sum_by-cons (λ v. one_if (p v)) view views

-- one of the views with a lower number, or this one
parent_two : (u : ℕ) (o : Option ℕ)
    → one_if (passes_parent (λ p. nat_lt p u) o) + one_if (is_number u o) ≤ one_if
    (passes_parent (λ p. nat_lt p (suc u)) o)
parent_two u None = omega arith
parent_two u (Some p) = grind (arith, nat_tests)

pub lying_two : (u : ℕ) (views : List View)
    → lying_below u views + lying u views ≤ lying_below (suc u) views
lying_two u [] = omega arith
lying_two u (view ∷ views) =
    let one = parent_two u view.parent in
    let more = lying_two u views in
    let a = count_cons (below u) view views in
    let b = count_cons (λ w. is_number u w.parent) view views in
    let c = count_cons (below (suc u)) view views in
    omega arith

parent_more : (u c : ℕ) (o : Option ℕ) → u ≤ c
    → one_if (passes_parent (λ p. nat_lt p u) o) ≤ one_if (passes_parent (λ p. nat_lt p c) o)
parent_more u c None h = omega arith
parent_more u c (Some p) h = grind (arith, nat_tests)

pub lying_more : (u c : ℕ) (views : List View) → u ≤ c → lying_below u views ≤ lying_below c views
lying_more u c [] h = omega arith
lying_more u c (view ∷ views) h =
    let one = parent_more u c view.parent h in
    let more = lying_more u c views h in
    let a = count_cons (below u) view views in
    let b = count_cons (below c) view views in
    omega arith

pub lying_drop : (v n : ℕ) (views : List View) → lying v (drop n views) ≤ lying v views
lying_drop v zero views = omega arith
lying_drop v (suc n) [] = omega arith
lying_drop v (suc n) (view ∷ views) =
    let more = lying_drop v n views in
    let a = count_cons (λ w. is_number v w.parent) view views in
    omega arith

root_alone : (tree : Tree) (o : Option ℕ) → AreParentsFirst tree → parent_of tree 0 ≡ o → (v : ℕ)
    → passes_parent (λ p. nat_lt p v) o ≡ false
root_alone tree None first is v = refl
root_alone tree (Some p) first is v = let below = first.below 0 p is in absurd (omega arith)

few_below : (views : List View) (v : ℕ) → IsTree views → lying_below v views ≤ 31
few_below [] v whole = omega arith
few_below (root ∷ rest) v whole =
    let few = whole.few in
    let none = ap one_if (root_alone (root ∷ rest) root.parent whole.parents refl v) in
    let a = count_cons (below v) root rest in
    let b = count_by-le-length (below v) rest in
    omega arith

-- at most 31 views lie in another one
pub few_lie : (tree : Tree) (v : ℕ) → IsTree tree → lying_below v tree ≤ 31
few_lie tree v whole = few_below tree v whole

-- ---- one view after another

pub view_first : (tree : Tree) (k : ℕ) (w : View) → slice_get tree k ≡ Some w
    → drop k tree ≡ w ∷ drop (suc k) tree
view_first [] k w got = cc
view_first (v ∷ rest) zero w got = let e : v ≡ w = cc in ap (λ u. u ∷ rest) e
view_first (v ∷ rest) (suc k) w got = view_first rest k w got

pub lying_next : (tree : Tree) (k v : ℕ) (w : View) → slice_get tree k ≡ Some w
    → lying v (drop k tree) ≡ one_if (is_number v w.parent) + lying v (drop (k + 1) tree)
lying_next tree k v w got =
    let n : suc k ≡ k + 1 = omega arith in
    ap (lying v) (view_first tree k w got)
    ∙ count_cons (λ u. is_number v u.parent) w (drop (suc k) tree)
    ∙ ap (λ m. one_if (is_number v w.parent) + lying v (drop m tree)) n

pub parent_is : (tree : Tree) (k : ℕ) (w : View) → slice_get tree k ≡ Some w
    → parent_of tree k ≡ w.parent
parent_is tree k w got = ap (λ o. option_and_then (λ (u : View). u.parent) o) got
