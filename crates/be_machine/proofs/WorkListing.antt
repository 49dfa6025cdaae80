-- The Draw bodies of the views that an update lists cost no more than all Draw bodies of the window.
use Rattle.std.proofs.Common.{◌≡◌, ℕ, zero, suc, ◌+◌, ◌<◌, ◌≤◌, Bool, true, false, List, [], ◌∷◌, ◌++◌, length, sum_by, Option, Some, None, refl, ap, subst, ◌∙◌, arith}
use Rattle.std.specs.Prelude.{◌==◌, flat_map, option_and_then, if◌then◌else◌}
use Rattle.std.proofs.lemmas.List.Sums.{sum_by-append, sum_by-cons}
use Rattle.be_facts.proofs.Numbers.{eq_tells}
use Rattle.be_geom.specs.Numbers.{is_number}
use Rattle.be_views.specs.Trees.{Tree, View, children_from, children_of, parent_of, preorder_from, preorder}
use Rattle.be_machine.specs.Orderly.{one_if}
use Rattle.be_machine.proofs.NumbersGrow.{IsRooted}

-- ---- how often a view stands in the preorder

-- how often a number stands in a list
abbrev pub times : ℕ → List ℕ → ℕ
times u vs = sum_by (λ v. one_if (u == v)) vs

is_view : ℕ → Option ℕ → ℕ
is_view v (Some p) = one_if (p == v)
is_view v None = 0

-- in so many steps up from a view: how often v is met
climbs : ℕ → Tree → Option ℕ → ℕ → ℕ
climbs zero tree o v = 0
climbs (suc steps) tree None v = 0
climbs (suc steps) tree (Some x) v = one_if (x == v) + climbs steps tree (parent_of tree x) v

-- the sum over the children of a view
over : (ℕ → ℕ) → List (ℕ × View) → ℕ
over f [] = 0
over f (child ∷ rest) = f child.0 + over f rest

over_le : (f g : ℕ → ℕ) (cs : List (ℕ × View)) → ((c : ℕ) → f c ≤ g c) → over f cs ≤ over g cs
unfolding over
over_le f g [] h = omega arith
over_le f g (c ∷ cs) h = omega (arith, h c.0, over_le f g cs h)

over_sum : (f g : ℕ → ℕ) (cs : List (ℕ × View)) → over (λ c. f c + g c) cs ≡ over f cs + over g cs
unfolding over
over_sum f g [] = refl
over_sum f g (c ∷ cs) = omega (arith, over_sum f g cs)

over_none : (cs : List (ℕ × View)) → over (λ c. 0) cs ≡ 0
unfolding over
over_none [] = refl
over_none (c ∷ cs) = omega (arith, over_none cs)

over_if : (f : ℕ → ℕ) (b : Bool) (c : ℕ × View) (cs : List (ℕ × View)) → over f (if b then c ∷ cs else cs) ≡ (if b then f c.0 else 0) + over f cs
unfolding over
over_if f true c cs = refl
over_if f false c cs = omega arith

other_by : (m n : ℕ) (b : Bool) → (m == n) ≡ b → (m ≡ n → ⊥) → one_if b ≡ 0
other_by m n true e h = absurd (h (eq_tells m n e))
other_by m n false e h = refl

other_one : (m n : ℕ) → (m ≡ n → ⊥) → one_if (m == n) ≡ 0
other_one m n h = other_by m n (m == n) refl h

if_none : (b : Bool) (n : ℕ) → n ≡ 0 → (if b then n else 0) ≡ 0
if_none true n e = e
if_none false n e = refl

-- children have the numbers from k on
children_later : (x k v : ℕ) (tree : Tree) → x < k → over (λ c. one_if (x == c)) (children_from k v tree) ≡ 0
unfolding over
children_later x k v [] lt = refl
children_later x k v (view ∷ rest) lt =
    let apart : x ≡ k → ⊥ = λ e. absurd (omega arith) in
    omega (
      arith,
      over_if (λ c. one_if (x == c)) (is_number v view.parent) (k, view) (children_from (suc k) v rest),
      if_none (is_number v view.parent) (one_if (x == k)) (other_one x k apart),
      children_later x (suc k) v rest (omega arith),
    )

by_test : (b : Bool) (n : ℕ) → n ≤ 1 → (if b then n else 0) ≤ one_if b
by_test true n le = le
by_test false n le = omega arith

if_is_view : (v n : ℕ) (o : Option ℕ) → n ≤ 1 → (if is_number v o then n else 0) ≤ is_view v o
unfolding is_view
if_is_view v n None le = omega arith
if_is_view v n (Some p) le = by_test (p == v) n le

one_at_most : (b : Bool) → one_if b ≤ 1
one_at_most true = omega arith
one_at_most false = omega arith

-- of the children of a view one at most has the number, and only where the view is its parent
children_once : (k i v : ℕ) (tree : Tree) → over (λ c. one_if (k + i == c)) (children_from k v tree) ≤ is_view v (parent_of tree i)
unfolding over is_view
children_once k i v [] = omega arith
children_once k zero v (view ∷ rest) = omega (
  arith,
  over_if (λ c. one_if (k + 0 == c)) (is_number v view.parent) (k, view) (children_from (suc k) v rest),
  if_is_view v (one_if (k + 0 == k)) view.parent (one_at_most (k + 0 == k)),
  children_later (k + 0) (suc k) v rest (omega arith),
)
children_once k (suc i) v (view ∷ rest) =
    let more : k + suc i ≡ suc k + i = omega arith in
    let apart : k + suc i ≡ k → ⊥ = λ e. absurd (omega arith) in
    let later : over (λ c. one_if (k + suc i == c)) (children_from (suc k) v rest) ≤ is_view v (parent_of rest i) = rw more (children_once (suc k) i v rest) in
    omega (
      arith,
      over_if (λ c. one_if (k + suc i == c)) (is_number v view.parent) (k, view) (children_from (suc k) v rest),
      if_none (is_number v view.parent) (one_if (k + suc i == k)) (other_one (k + suc i) k apart),
      later,
    )

climbs_none : (steps : ℕ) (tree : Tree) (v : ℕ) → climbs steps tree None v ≡ 0
unfolding climbs
climbs_none zero tree v = refl
climbs_none (suc steps) tree v = refl

climbs_one : (steps : ℕ) (tree : Tree) (o : Option ℕ) (v : ℕ) → is_view v o + climbs steps tree (option_and_then (parent_of tree) o) v ≤ climbs (suc steps) tree o v
unfolding climbs is_view
climbs_one steps tree (Some x) v = omega arith
climbs_one steps tree None v = omega (arith, climbs_none steps tree v)

children_here : (x v : ℕ) (tree : Tree) → over (λ c. one_if (x == c)) (children_of tree v) ≤ is_view v (parent_of tree x)
children_here x v tree = let same : 0 + x ≡ x = omega arith in subst (λ n. over (λ c. one_if (n == c)) (children_of tree v) ≤ is_view v (parent_of tree x)) same (children_once 0 x v tree)

climbs_over : (steps : ℕ) (tree : Tree) (o : Option ℕ) (v : ℕ) → over (λ c. climbs steps tree o c) (children_of tree v) ≤ climbs steps tree (option_and_then (parent_of tree) o) v
unfolding climbs
climbs_over zero tree o v = omega (arith, over_none (children_of tree v))
climbs_over (suc steps) tree None v = omega (arith, over_none (children_of tree v))
climbs_over (suc steps) tree (Some x) v =
    let here : over (λ c. one_if (x == c)) (children_of tree v) ≤ is_view v (parent_of tree x) = children_here x v tree in
    omega (
      arith,
      over_sum (λ c. one_if (x == c)) (λ c. climbs steps tree (parent_of tree x) c) (children_of tree v),
      here,
      climbs_over steps tree (parent_of tree x) v,
      climbs_one steps tree (parent_of tree x) v,
    )

-- ---- the preorder

times_append : (u : ℕ) (xs ys : List ℕ) → times u (xs ++ ys) ≡ times u xs + times u ys
times_append u xs ys = sum_by-append (λ v. one_if (u == v)) xs ys

times_over : (u : ℕ) (f : ℕ → List ℕ) (cs : List (ℕ × View)) → times u (flat_map (λ c. f c.0) cs) ≡ over (λ c. times u (f c)) cs
unfolding over
times_over u f [] = refl
times_over u f (c ∷ cs) = omega (arith, times_append u (f c.0) (flat_map (λ x. f x.0) cs), times_over u f cs)

preorder_climbs : (steps : ℕ) (tree : Tree) (u v : ℕ) → times u (preorder_from steps tree v) ≤ climbs steps tree (Some u) v
unfolding climbs
preorder_climbs zero tree u v = omega arith
preorder_climbs (suc steps) tree u v = omega (
  arith,
  sum_by-cons (λ x. one_if (u == x)) v (flat_map (λ child. preorder_from steps tree child.0) (children_of tree v)),
  times_over u (preorder_from steps tree) (children_of tree v),
  over_le (λ c. times u (preorder_from steps tree c)) (λ c. climbs steps tree (Some u) c) (children_of tree v) (λ c. preorder_climbs steps tree u c),
  climbs_over steps tree (Some u) v,
)

root_by : (steps : ℕ) (tree : Tree) (x : ℕ) (b : Bool) → (x == 0) ≡ b → IsRooted tree → climbs steps tree (parent_of tree x) 0 ≤ 1 → one_if b + climbs steps tree (parent_of tree x) 0 ≤ 1
root_by steps tree x true e h le =
    let at_root : x ≡ 0 = eq_tells x 0 e in
    let none : parent_of tree x ≡ None = ap (parent_of tree) at_root ∙ h in
    rw none (omega (arith, climbs_none steps tree 0))
root_by steps tree x false e h le = omega arith

climbs_root : (steps : ℕ) (tree : Tree) (o : Option ℕ) → IsRooted tree → climbs steps tree o 0 ≤ 1
unfolding climbs
climbs_root zero tree o h = omega arith
climbs_root (suc steps) tree None h = omega arith
climbs_root (suc steps) tree (Some x) h = root_by steps tree x (x == 0) refl h (climbs_root steps tree (parent_of tree x) h)

-- each view once at most
pub preorder_once : (tree : Tree) (u : ℕ) → IsRooted tree → times u (preorder tree) ≤ 1
unfolding preorder
preorder_once tree u h = omega (arith, preorder_climbs (length tree) tree u 0, climbs_root (length tree) tree (Some u) h)
