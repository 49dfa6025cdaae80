-- What holds of every tree: its root begins at (0, 0), parents stand before their children, and no view is deeper than 8.
use Rattle.std.specs.Prelude.{slice_get, option_map, option_and_then, is_some}
use Rattle.std.proofs.Common.{◌≡◌, ℕ, ◌+◌, ◌<◌, ◌≤◌, zero, suc, pos, ◌↔◌, ◌⊎◌, inl, inr, false, [], ◌∷◌, ◌++◌, Option, Some, None, IfSome, length, arith, refl, sym, ap, ◌∙◌, get_or}
use Rattle.std.proofs.lemmas.Bool.{cases_lt, cases_order}
use Rattle.std.proofs.lemmas.Option.{none-some, same_Some, slice_get_past, slice_get-get_or}
use Rattle.be_geom.specs.declared.point.Point.{Point}
use Rattle.be_geom.specs.declared.rect.Rect.{Rect}
use Rattle.be_geom.specs.Places.{at_pixel, sum_of}
use Rattle.be_views.specs.Trees.{View, Tree, parent_of, left_top, corner_in, place_from, place_of}
use Rattle.be_views.specs.Places.{pair_of}
use Rattle.be_views.specs.Whole.{AreParentsFirst, IsTree, depth_above, depth_in, depth_from, depth_of, root_view}

-- ---- one view more

pub got_front : (tree : Tree) (w : View) (v : ℕ) → v < length tree → slice_get (tree ++ w ∷ []) v ≡ slice_get tree v
got_front [] w v h = absurd (omega arith)
got_front (u ∷ tree) w zero h = refl
got_front (u ∷ tree) w (suc v) h = got_front tree w v (omega arith)

pub got_last : (tree : Tree) (w : View) → slice_get (tree ++ w ∷ []) (length tree) ≡ Some w
got_last [] w = refl
got_last (u ∷ tree) w = got_last tree w

pub got_past : (tree : Tree) (w : View) (v : ℕ) → length tree < v → slice_get (tree ++ w ∷ []) v ≡ None
got_past [] w zero h = absurd (omega arith)
got_past [] w (suc v) h = refl
got_past (u ∷ tree) w zero h = absurd (omega arith)
got_past (u ∷ tree) w (suc v) h = got_past tree w v (omega arith)

-- ---- depths

pub above_same : (f g : ℕ → ℕ) (o : Option ℕ) → ((p : ℕ) → o ≡ Some p → f p ≡ g p) → depth_above f o + 1 ≡ depth_above g o + 1
above_same f g None h = refl
above_same f g (Some p) h = ap (λ n. n + 1) (h p refl)

pub depth_same : (f g : ℕ → ℕ) (o : Option View) → ((p : ℕ) → option_and_then (λ view. view.parent) o ≡ Some p → f p ≡ g p) → depth_in f o ≡ depth_in g o
depth_same f g None h = refl
depth_same f g (Some view) h = above_same f g view.parent h

pub depth_more : (tree : Tree) (n m v : ℕ) → AreParentsFirst tree → v < n → v < m → depth_from n tree v ≡ depth_from m tree v
depth_more tree zero m v first h k = absurd (omega arith)
depth_more tree (suc n) zero v first h k = absurd (omega arith)
depth_more tree (suc n) (suc m) v first h k =
    depth_same (depth_from n tree) (depth_from m tree) (slice_get tree v) (λ p is. let below = first.below v p is in depth_more tree n m p first (omega arith) (omega arith))

pub depth_push : (tree : Tree) (w : View) (n v : ℕ) → AreParentsFirst tree → v < length tree → depth_from n (tree ++ w ∷ []) v ≡ depth_from n tree v
depth_push tree w zero v first h = refl
depth_push tree w (suc n) v first h =
    ap (depth_in (depth_from n (tree ++ w ∷ []))) (got_front tree w v h) ∙ depth_same (depth_from n (tree ++ w ∷ [])) (depth_from n tree) (slice_get tree v) (λ p is. let below = first.below v p is in depth_push tree w n p first (omega arith))

pub length_more : (tree : Tree) (w : View) → length (tree ++ w ∷ []) ≡ suc (length tree)
length_more [] w = refl
length_more (u ∷ tree) w = ap (λ n. suc n) (length_more tree w)

depth_old : (tree : Tree) (w : View) (v : ℕ) → AreParentsFirst tree → v < length tree → depth_from (length (tree ++ w ∷ [])) (tree ++ w ∷ []) v ≡ depth_from (length tree) tree v
depth_old tree w v first h =
    let n = length_more tree w in
    depth_push tree w (length (tree ++ w ∷ [])) v first h ∙ depth_more tree (length (tree ++ w ∷ [])) (length tree) v first (omega arith) h

depth_new : (tree : Tree) (w : View) (p : ℕ) → AreParentsFirst tree → w.parent ≡ Some p → p < length tree → depth_from (length (tree ++ w ∷ [])) (tree ++ w ∷ []) (length tree) ≡ depth_from (length tree) tree p + 1
depth_new tree w p first is h =
    ap (λ n. depth_from n (tree ++ w ∷ []) (length tree)) (length_more tree w) ∙ ap (depth_in (depth_from (length tree) (tree ++ w ∷ []))) (got_last tree w) ∙ ap (λ o. depth_above (depth_from (length tree) (tree ++ w ∷ [])) o + 1) is ∙ ap (λ n. n + 1) (depth_push tree w (length tree) p first h)

depth_none : (n : ℕ) (tree : Tree) (v : ℕ) → slice_get tree v ≡ None → depth_from n tree v ≡ 0
depth_none zero tree v h = refl
depth_none (suc n) tree v h = ap (depth_in (depth_from n tree)) h

depths_of_push : (tree : Tree) (w : View) (p : ℕ) → AreParentsFirst tree → w.parent ≡ Some p → p < length tree → depth_from (length tree) tree p < 8 → ((v : ℕ) → depth_from (length tree) tree v ≤ 8) → (v : ℕ) → depth_from (length (tree ++ w ∷ [])) (tree ++ w ∷ []) v ≤ 8
depths_of_push tree w p first is h low depths v =
    elim (cases_order v (length tree)) [ inl same ↦ rw (same, depth_new tree w p first is h) (omega arith) | inr other ↦ elim other [ inl less ↦ rw (depth_old tree w v first less) (depths v) | inr more ↦ rw (depth_none (length (tree ++ w ∷ [])) (tree ++ w ∷ []) v (got_past tree w v more)) (omega arith) ] ]

-- ---- parents

parent_is : (tree : Tree) (v : ℕ) (o : Option View) → slice_get tree v ≡ o → parent_of tree v ≡ option_and_then (λ (view : View). view.parent) o
parent_is tree v o h = ap (λ u. option_and_then (λ view. view.parent) u) h

first_of_push : (tree : Tree) (w : View) (p : ℕ) → AreParentsFirst tree → w.parent ≡ Some p → p < length tree → AreParentsFirst (tree ++ w ∷ [])
first_of_push tree w p first is h = record {
  rooted = λ v within none. elim (cases_order v (length tree)) [ inl same ↦ absurd (none-some p (sym (sym (ap (parent_of (tree ++ w ∷ [])) same ∙ parent_is (tree ++ w ∷ []) (length tree) (Some w) (got_last tree w) ∙ is) ∙ none))) | inr other ↦ elim other [ inl less ↦ first.rooted v less (sym (parent_is (tree ++ w ∷ []) v (slice_get tree v) (got_front tree w v less)) ∙ none) | inr more ↦ let n = length_more tree w in absurd (omega arith) ] ];
  below = λ v parent at. elim (cases_order v (length tree)) [ inl same ↦ let e = same_Some p parent (sym (ap (parent_of (tree ++ w ∷ [])) same ∙ parent_is (tree ++ w ∷ []) (length tree) (Some w) (got_last tree w) ∙ is) ∙ at) in omega arith | inr other ↦ elim other [ inl less ↦ first.below v parent (sym (parent_is (tree ++ w ∷ []) v (slice_get tree v) (got_front tree w v less)) ∙ at) | inr more ↦ absurd (none-some parent (sym (parent_is (tree ++ w ∷ []) v None (got_past tree w v more)) ∙ at)) ] ];
}

below_one : (w : View) → w.parent ≡ None → (v parent : ℕ) → parent_of (w ∷ []) v ≡ Some parent → parent < v
below_one w is zero parent at = absurd (none-some parent (sym is ∙ at))
below_one w is (suc v) parent at = absurd (none-some parent at)

depth_one : (w : View) → w.parent ≡ None → (v : ℕ) → depth_from 1 (w ∷ []) v ≤ 8
depth_one w is zero = rw is (omega arith)
depth_one w is (suc v) = omega arith

pub tree_of_one : (w : View) → w.parent ≡ None → left_top w.frame ≡ at_pixel (pos 0) (pos 0) → IsTree (w ∷ [])
unfolding depth_of
tree_of_one w is corner = record {
  some = omega arith;
  begins = record { corner = λ root is. ap (λ (v : View). left_top v.frame) (sym (same_Some w root is)) ∙ corner };
  few = omega arith;
  parents = record { rooted = λ v h k. omega arith; below = below_one w is };
  depths = depth_one w is;
}

pub tree_of_push : (tree : Tree) (w : View) (p : ℕ) → IsTree tree → w.parent ≡ Some p → p < length tree → depth_of tree p < 8 → length tree < 32 → IsTree (tree ++ w ∷ [])
unfolding depth_of
tree_of_push tree w p t is h low room = record {
  some = let n = length_more tree w in omega arith;
  begins = record { corner = λ root is. t.begins.corner root (sym (got_front tree w 0 t.some) ∙ is) };
  few = let n = length_more tree w in omega arith;
  parents = first_of_push tree w p t.parents is h;
  depths = depths_of_push tree w p t.parents is h low t.depths;
}

-- ---- where there is no view, and where there is

parent_or : {A : Type 0} (o : Option ℕ) → (o ≡ None → A) → is_some o ≡ false → A
parent_or None h none = h refl
parent_or (Some p) h none = cc

some_parent : (tree : Tree) (v : ℕ) → AreParentsFirst tree → 0 < v → v < length tree → is_some (parent_of tree v) ≡ false → ⊥
some_parent tree v first h k none = parent_or (parent_of tree v) (λ e. let z = first.rooted v k e in absurd (omega arith)) none

or_from_not : (v n : ℕ) → (0 < v → v < n → ⊥) → (v ≡ 0) ⊎ (n ≤ v)
or_from_not zero n h = inl refl
or_from_not (suc v) n h = inr (elim (cases_lt (suc v) n) [ inl less ↦ absurd (h (omega arith) less) | inr past ↦ past ])

none_below : (v : ℕ) (o : Option ℕ) → ((p : ℕ) → o ≡ Some p → p < v) → v ≡ 0 → is_some o ≡ false
none_below v None h z = refl
none_below v (Some p) h z = let e = h p refl in absurd (omega arith)

parent_none : (tree : Tree) (v : ℕ) → AreParentsFirst tree → (v ≡ 0) ⊎ (length tree ≤ v) → is_some (parent_of tree v) ≡ false
parent_none tree v first (inl zero_is) = none_below v (parent_of tree v) (first.below v) zero_is
parent_none tree v first (inr past) = ap is_some (parent_is tree v None (slice_get_past tree v past))

pub no_parent : (tree : Tree) (v : ℕ) → IsTree tree → (is_some (parent_of tree v) ≡ false) ↔ ((v ≡ 0) ⊎ (length tree ≤ v))
no_parent tree v t =
    (λ none. or_from_not v (length tree) (λ h k. some_parent tree v t.parents h k none), λ at. parent_none tree v t.parents at)

map_none : (f : Point → Point) (o : Option Point) → option_map f o ≡ None → o ≡ None
map_none f (Some p) h = absurd (none-some (f p) (sym h))
map_none f None h = refl

corner_there : (place : ℕ → Option Point) (frame : Rect) (o : Option ℕ) → ((p : ℕ) → o ≡ Some p → place p ≡ None → ⊥) → corner_in place frame o ≡ None → ⊥
corner_there place frame (Some p) h none = h p refl (map_none (sum_of (left_top frame)) (place p) none)
corner_there place frame None h none = none-some (left_top frame) (sym none)

there_from : (place : ℕ → Option Point) (o : Option View) → ((p : ℕ) → option_and_then (λ (view : View). view.parent) o ≡ Some p → place p ≡ None → ⊥) → (o ≡ None → ⊥) → option_and_then (λ view. corner_in place view.frame view.parent) o ≡ None → ⊥
there_from place None h there none = there refl
there_from place (Some view) h there none = corner_there place view.frame view.parent h none

got_within : (tree : Tree) (v : ℕ) → v < length tree → slice_get tree v ≡ None → ⊥
got_within [] v h none = absurd (omega arith)
got_within (w ∷ tree) zero h none = none-some w (sym none)
got_within (w ∷ tree) (suc v) h none = got_within tree v (omega arith) none

place_there : (tree : Tree) (n v : ℕ) → AreParentsFirst tree → v < n → v < length tree → place_from n tree v ≡ None → ⊥
place_there tree zero v first h within none = omega arith
place_there tree (suc n) v first h within none =
    there_from (place_from n tree) (slice_get tree v) (λ p is. let below = first.below v p is in place_there tree n p first (omega arith) (omega arith)) (got_within tree v within) none

place_past : (tree : Tree) (n v : ℕ) → slice_get tree v ≡ None → place_from n tree v ≡ None
place_past tree zero v h = refl
place_past tree (suc n) v h = ap (λ o. option_and_then (λ view. corner_in (place_from n tree) view.frame view.parent) o) h

none_is : {A B : Type 0} (f : A → B) (o : Option A) → is_some (option_map f o) ≡ false → o ≡ None
none_is f None h = refl
none_is f (Some a) h = cc

within_or : (n v : ℕ) → (v < n → ⊥) → n ≤ v
within_or n v h = elim (cases_lt v n) [ inl less ↦ absurd (h less) | inr past ↦ past ]

pub no_place : (tree : Tree) (v : ℕ) → IsTree tree → (is_some (option_map pair_of (place_of tree v)) ≡ false) ↔ (length tree ≤ v)
unfolding place_of
no_place tree v t =
    (λ none. within_or (length tree) v (λ within. place_there tree (length tree) v t.parents within within (none_is pair_of (place_from (length tree) tree v) none)), λ past. ap (λ o. is_some (option_map pair_of o)) (place_past tree (length tree) v (slice_get_past tree v past)))

if_some : {A : Type 0} (P : A → Type 0) (o : Option A) → ((a : A) → o ≡ Some a → P a) → IfSome o P
if_some P None h = tt
if_some P (Some a) h = h a refl

pub parent_under : (tree : Tree) (v : ℕ) → IsTree tree → IfSome (parent_of tree v) (λ parent. parent < v)
parent_under tree v t = if_some (λ p. p < v) (parent_of tree v) (t.parents.below v)

pub view_there : (tree : Tree) (n : ℕ) → n < length tree → (v : View) × (slice_get tree n ≡ Some v)
view_there tree n below =
    (get_or tree n (root_view (pos 0) (pos 0)), slice_get-get_or tree n (root_view (pos 0) (pos 0)) below)

pub root_of : (tree : Tree) → 0 < length tree → (root : View) × (slice_get tree 0 ≡ Some root)
root_of [] h = absurd (omega arith)
root_of (root ∷ tree) h = (root, refl)
