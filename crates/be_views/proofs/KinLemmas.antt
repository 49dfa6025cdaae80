-- Which views lie in which, and that the way down from a view ends in it.
use Rattle.std.specs.Prelude.{option_and_then, slice_get}
use Rattle.std.proofs.Common.{◌≡◌, ℕ, ◌≤◌, ◌<◌, ◌==◌, zero, suc, ℤ, ◌-ℤ◌, Bool, true, false, if◌then◌else◌, ◌⊎◌, inl, inr, length, Option, Some, None, arith, refl, sym, ap, ◌∙◌}
use Rattle.std.proofs.lemmas.Bool.{or_cases, or_left, or_right, eqb-true, eq-eqb, false≢true}
use Rattle.std.proofs.lemmas.Option.{none-some, same_Some, slice_get_within}
use Rattle.be_facts.proofs.Lists.{some_inner}
use Rattle.be_geom.specs.Rects.{rect_has}
use Rattle.be_views.specs.Trees.{View, Tree, parent_of, passes_parent, lies_within}
use Rattle.be_views.specs.Pixels.{last_child_at, descended, view_at, view_below}
use Rattle.be_views.specs.Whole.{AreParentsFirst}
use Rattle.be_views.proofs.FrontLemmas.{IsChild, child_is}

pub within_self : (n : ℕ) (tree : Tree) (v : ℕ) → lies_within n tree v v ≡ true
within_self zero tree v = eq-eqb v v refl
within_self (suc n) tree v = or_left (v == v) (passes_parent (lies_within n tree v) (parent_of tree v)) (eq-eqb v v refl)

-- the parent of a view that lies in another
passes_some : (test : ℕ → Bool) (o : Option ℕ) → passes_parent test o ≡ true → (p : ℕ) × ((o ≡ Some p) × (test p ≡ true))
passes_some test None h = absurd (false≢true h)
passes_some test (Some p) h = (p, (refl, h))

-- a view is another one, or its parent lies in that one
pub within_cases : (n : ℕ) (tree : Tree) (c w : ℕ) → lies_within n tree c w ≡ true → (w ≡ c) ⊎ ((k : ℕ) × ((p : ℕ) × ((parent_of tree w ≡ Some p) × (lies_within k tree c p ≡ true))))
within_cases zero tree c w h = inl (eqb-true w c h)
within_cases (suc n) tree c w h =
    elim (or_cases (w == c) (passes_parent (lies_within n tree c) (parent_of tree w)) h) [ inl same ↦ inl (eqb-true w c same) | inr above ↦ inr (n, passes_some (lies_within n tree c) (parent_of tree w) above) ]

through_parent : (n : ℕ) (tree : Tree) (u w p : ℕ) → parent_of tree w ≡ Some p → lies_within n tree u p ≡ true → lies_within (suc n) tree u w ≡ true
through_parent n tree u w p is h =
    or_right (w == u) (passes_parent (lies_within n tree u) (parent_of tree w)) (ap (passes_parent (lies_within n tree u)) is ∙ h)

-- what lies in a child lies in the view
pub within_child : (n : ℕ) (tree : Tree) (u c w : ℕ) → parent_of tree c ≡ Some u → lies_within n tree c w ≡ true → lies_within (suc n) tree u w ≡ true
within_child zero tree u c w is h =
    through_parent zero tree u w u (ap (parent_of tree) (eqb-true w c h) ∙ is) (within_self zero tree u)
within_child (suc n) tree u c w is h =
    elim (or_cases (w == c) (passes_parent (lies_within n tree c) (parent_of tree w)) h) [ inl same ↦ through_parent (suc n) tree u w u (ap (parent_of tree) (eqb-true w c same) ∙ is) (within_self (suc n) tree u) | inr above ↦ let p = passes_some (lies_within n tree c) (parent_of tree w) above in through_parent (suc n) tree u w p.0 p.1.0 (within_child n tree u c p.0 is p.1.1) ]

-- a view's number isn't above the numbers of those in it
pub within_below : (n : ℕ) (tree : Tree) (c w : ℕ) → AreParentsFirst tree → lies_within n tree c w ≡ true → c ≤ w
within_below zero tree c w first h = let e = eqb-true w c h in omega arith
within_below (suc n) tree c w first h =
    elim (or_cases (w == c) (passes_parent (lies_within n tree c) (parent_of tree w)) h) [ inl same ↦ let e = eqb-true w c same in omega arith | inr above ↦ let p = passes_some (lies_within n tree c) (parent_of tree w) above in let low = within_below n tree c p.0 first p.1.1 in let below = first.below w p.0 p.1.0 in omega arith ]

-- no view lies in two children of one view
child_alone : (tree : Tree) (n u c d w : ℕ) → AreParentsFirst tree → parent_of tree c ≡ Some u → parent_of tree d ≡ Some u → w ≡ c → lies_within n tree d w ≡ true → c ≡ d
child_alone tree n u c d w first in_c in_d is h =
    elim (within_cases n tree d w h) [ inl same ↦ omega arith | inr above ↦ let up : u ≡ above.1.0 = same_Some u above.1.0 (sym in_c ∙ ap (parent_of tree) (sym is) ∙ above.1.1.0) in let low = within_below above.0 tree d above.1.0 first above.1.1.1 in let below = first.below d u in_d in absurd (omega arith) ]

one_parent : (n : ℕ) (tree : Tree) (m u c d w p : ℕ) → AreParentsFirst tree → parent_of tree c ≡ Some u → parent_of tree d ≡ Some u → parent_of tree w ≡ Some p → lies_within n tree c p ≡ true → lies_within m tree d w ≡ true → ((j : ℕ) → lies_within j tree d p ≡ true → c ≡ d) → c ≡ d
one_parent n tree m u c d w p first in_c in_d is h k next =
    elim (within_cases m tree d w k) [ inl same ↦ let up : u ≡ p = same_Some u p (sym in_d ∙ ap (parent_of tree) (sym same) ∙ is) in let low = within_below n tree c p first h in let below = first.below c u in_c in absurd (omega arith) | inr above ↦ next above.0 (ap (lies_within above.0 tree d) (same_Some p above.1.0 (sym is ∙ above.1.1.0)) ∙ above.1.1.1) ]

pub one_child : (n : ℕ) (tree : Tree) (m u c d w : ℕ) → AreParentsFirst tree → parent_of tree c ≡ Some u → parent_of tree d ≡ Some u → lies_within n tree c w ≡ true → lies_within m tree d w ≡ true → c ≡ d
one_child zero tree m u c d w first in_c in_d h k = child_alone tree m u c d w first in_c in_d (eqb-true w c h) k
one_child (suc n) tree m u c d w first in_c in_d h k =
    elim (or_cases (w == c) (passes_parent (lies_within n tree c) (parent_of tree w)) h) [ inl same ↦ child_alone tree m u c d w first in_c in_d (eqb-true w c same) k | inr above ↦ let p = passes_some (lies_within n tree c) (parent_of tree w) above in one_parent n tree m u c d w p.0 first in_c in_d p.1.0 p.1.1 k (λ j. one_child n tree j u c d p.0 first in_c in_d p.1.1) ]

-- ---- the way down

pub parent_read : (tree : Tree) (u : ℕ) (x y : ℤ) (c : ℕ × View) → IsChild tree u x y c → parent_of tree c.0 ≡ Some u
parent_read tree u x y c h = ap (λ o. option_and_then (λ (w : View). w.parent) o) h.got ∙ h.lies

-- where the way goes down from a view by one step
pub goes_on : (n : ℕ) (tree : Tree) (v : ℕ) (x y : ℤ) (c : ℕ × View) → last_child_at tree v x y ≡ Some c → view_below (suc n) tree v x y ≡ view_below n tree c.0 (x -ℤ c.1.frame.left) (y -ℤ c.1.frame.top)
goes_on n tree v x y c h = ap (descended (view_below n tree) v x y) h

pub stops : (n : ℕ) (tree : Tree) (v : ℕ) (x y : ℤ) → last_child_at tree v x y ≡ None → view_below n tree v x y ≡ v
stops zero tree v x y h = refl
stops (suc n) tree v x y h = ap (descended (view_below n tree) v x y) h

ends_from : (n : ℕ) (tree : Tree) (v : ℕ) (x y : ℤ) (o : Option (ℕ × View)) → last_child_at tree v x y ≡ o → ((w : ℕ) (a b : ℤ) → lies_within n tree w (view_below n tree w a b) ≡ true) → lies_within (suc n) tree v (view_below (suc n) tree v x y) ≡ true
ends_from n tree v x y None is inner =
    ap (lies_within (suc n) tree v) (stops (suc n) tree v x y is) ∙ within_self (suc n) tree v
ends_from n tree v x y (Some c) is inner =
    ap (lies_within (suc n) tree v) (goes_on n tree v x y c is) ∙ within_child n tree v c.0 (view_below n tree c.0 (x -ℤ c.1.frame.left) (y -ℤ c.1.frame.top)) (parent_read tree v x y c (child_is tree v x y c is)) (inner c.0 (x -ℤ c.1.frame.left) (y -ℤ c.1.frame.top))

-- the way down from a view ends in it
pub ends_within : (n : ℕ) (tree : Tree) (v : ℕ) (x y : ℤ) → lies_within n tree v (view_below n tree v x y) ≡ true
ends_within zero tree v x y = within_self zero tree v
ends_within (suc n) tree v x y = ends_from n tree v x y (last_child_at tree v x y) refl (λ w a b. ends_within n tree w a b)

-- ---- views that are there

-- a view that lies in another, or is it, is one of the tree
lies_there : (n : ℕ) (tree : Tree) (v u : ℕ) → v < length tree
    → lies_within n tree v u ≡ true → u < length tree
lies_there n tree v u there lies =
    elim (within_cases n tree v u lies) [
      | inl same ↦ omega arith
      | inr above ↦
          let view =
          some_inner (λ (w : View). w.parent) (slice_get tree u) above.1.0 above.1.1.0 in
          slice_get_within tree u view.0 view.1
    ]

seen_by : (root : View) (tree : Tree) (x y : ℤ) (v : ℕ) (b : Bool)
    → slice_get tree 0 ≡ Some root
    → (if b then Some (view_below (length tree) tree 0 x y) else None) ≡ Some v → v < length tree
seen_by root tree x y v true is at =
    let same = same_Some (view_below (length tree) tree 0 x y) v at in
    rw (← same) (lies_there (length tree) tree 0 (view_below (length tree) tree 0 x y)
    (slice_get_within tree 0 root is) (ends_within (length tree) tree 0 x y))
seen_by root tree x y v false is at = absurd (none-some v at)

-- the view that is found at a pixel is one of the tree
pub seen_there : (tree : Tree) (x y : ℤ) (v : ℕ) → view_at tree x y ≡ Some v → v < length tree
unfolding view_at
seen_there tree x y v at =
    let root = some_inner (λ (root : View). if rect_has root.frame x y
    then Some (view_below (length tree) tree 0 x y) else None) (slice_get tree 0) v at in
    seen_by root.0 tree x y v (rect_has root.0.frame x y) root.1 root.2
