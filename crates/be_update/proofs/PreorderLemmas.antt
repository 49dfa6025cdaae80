-- The views below one, child by child.
use Rattle.std.proofs.Common.{◌≡◌, ℕ, ◌+◌, ◌-◌, ◌<◌, ◌≤◌, zero, suc, Bool, true, false, cond, List, [], ◌∷◌, ◌++◌, Option, Some, None, length, drop, arith, refl, sym, ap, ◌∙◌, append_assoc}
use Rattle.std.specs.Prelude.{slice_get, option_and_then}
use Rattle.std.specs.List.{flat_map}
use Rattle.std.specs.Option.{option_eq}
use Rattle.std.specs.Prelude.{nat_eq}
use Rattle.std.proofs.lemmas.List.{append-nil}
use Rattle.be_facts.proofs.Numbers.{suc_more}
use Rattle.be_geom.specs.Numbers.{is_number}
use Rattle.be_views.specs.Trees.{View, Tree, children_from, children_of, parent_of, preorder_from}

abbrev pub below : ℕ → Tree → List (ℕ × View) → List ℕ
below n tree children = flat_map (λ child. preorder_from n tree child.0) children

pub preorder_more : (levels : ℕ) (tree : Tree) (v : ℕ) → 0 < levels → preorder_from levels tree v ≡ v ∷ below (levels - 1) tree (children_of tree v)
preorder_more zero tree v h = absurd (omega arith)
preorder_more (suc n) tree v h = ap (λ m. v ∷ below m tree (children_of tree v)) (omega arith)

-- ---- one view of the list

pub record IsAt (tree : Tree) (k : ℕ) (w : View) : Type 0 where
  pub got : slice_get tree k ≡ Some w
  pub rest : drop k tree ≡ w ∷ drop (k + 1) tree

at : (tree : Tree) (k : ℕ) → k < length tree → (w : View) × IsAt tree k w
at [] k h = absurd (omega arith)
at (w ∷ tree) zero h = (w, record { got = refl; rest = refl })
at (w ∷ tree) (suc k) h =
    let a = at tree k (omega arith) in
    (a.0, record { got = a.1.got; rest = a.1.rest ∙ ap (λ n. a.0 ∷ drop n (w ∷ tree)) (sym (suc_more k)) })

next : (k v : ℕ) (w : View) (rest : Tree) → children_from k v (w ∷ rest) ≡ cond (is_number v w.parent) ((k, w) ∷ children_from (k + 1) v rest) (children_from (k + 1) v rest)
next k v w rest = ap (λ n. cond (is_number v w.parent) ((k, w) ∷ children_from n v rest) (children_from n v rest)) (omega arith)

number_is : (v : ℕ) (o : Option ℕ) → is_number v o ≡ option_eq nat_eq o (Some v)
number_is v (Some m) = refl
number_is v None = refl

pub record Step (tree : Tree) (k v : ℕ) (b : Bool) (w : View) : Type 0 where
  pub children : children_from k v (drop k tree) ≡ cond b ((k, w) ∷ children_from (k + 1) v (drop (k + 1) tree)) (children_from (k + 1) v (drop (k + 1) tree))

pub step : (tree : Tree) (k v : ℕ) (b : Bool) (parent : Option ℕ) → k < length tree → parent ≡ parent_of tree k → b ≡ option_eq nat_eq parent (Some v) → (w : View) × Step tree k v b w
step tree k v b parent h e f =
    let a = at tree k h in
    let w = a.0 in
    let number : is_number v w.parent ≡ b = number_is v w.parent ∙ sym (f ∙ ap (λ p. option_eq nat_eq p (Some v)) (e ∙ ap (λ (o : Option View). option_and_then (λ view. view.parent) o) a.1.got)) in (
      w,
      record {
        children =
            ap (children_from k v) a.1.rest ∙ next k v w (drop (k + 1) tree)
            ∙ ap (λ c. cond c ((k, w) ∷ children_from (k + 1) v (drop (k + 1) tree)) (children_from (k + 1) v (drop (k + 1) tree))) number;
      },
    )

-- a child was added with all below it
pub added : (tree : Tree) (n k v : ℕ) (w : View) (old new : List ℕ) → Step tree k v true w → new ≡ old ++ preorder_from n tree k → new ++ below n tree (children_from (k + 1) v (drop (k + 1) tree)) ≡ old ++ below n tree (children_from k v (drop k tree))
added tree n k v w old new s e =
    ap (λ l. l ++ below n tree (children_from (k + 1) v (drop (k + 1) tree))) e
    ∙ append_assoc old (preorder_from n tree k) (below n tree (children_from (k + 1) v (drop (k + 1) tree)))
    ∙ sym (ap (λ cs. old ++ below n tree cs) s.children)

-- another view was passed over
pub passed : (tree : Tree) (n k v : ℕ) (w : View) (old : List ℕ) → Step tree k v false w → old ++ below n tree (children_from (k + 1) v (drop (k + 1) tree)) ≡ old ++ below n tree (children_from k v (drop k tree))
passed tree n k v w old s = sym (ap (λ cs. old ++ below n tree cs) s.children)

drop_all : (tree : Tree) (k : ℕ) → length tree ≤ k → drop k tree ≡ []
drop_all [] zero h = refl
drop_all [] (suc k) h = refl
drop_all (w ∷ tree) zero h = absurd (omega arith)
drop_all (w ∷ tree) (suc k) h = drop_all tree k (omega arith)

-- behind the last view nothing is left to add
pub none_left : (tree : Tree) (n k v : ℕ) (old : List ℕ) → length tree ≤ k → old ++ below n tree (children_from k v (drop k tree)) ≡ old
none_left tree n k v old h = ap (λ l. old ++ below n tree (children_from k v l)) (drop_all tree k h) ∙ append-nil old
