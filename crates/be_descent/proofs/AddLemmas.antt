-- The frames of views, added one by one.
use Rattle.std.specs.Prelude.{slice_get}
use Rattle.std.proofs.Common.{◌≡◌, ℕ, ◌+◌, ◌<◌, ◌≤◌, suc, ℤ, ◌-ℤ◌, Bool, true, false, ◌&&◌, ◌||◌}
use Rattle.std.proofs.Common.{cond, List, Some, length, drop, arith, refl, sym, ap, ◌∙◌}
use Rattle.std.proofs.lemmas.List.{drop_all}
use Rattle.be_facts.proofs.Truths.{or_false}
use Rattle.be_geom.specs.declared.rect.Rect.{Rect}
use Rattle.be_geom.specs.Numbers.{is_number}
use Rattle.be_geom.specs.Rects.{rect_has}
use Rattle.be_region.specs.Regions.{region_has}
use Rattle.be_views.specs.Clips.{covers}
use Rattle.be_views.specs.Trees.{Tree, View, parent_of}
use Rattle.be_views.proofs.TreeLemmas.{view_there}
use Rattle.be_descent.specs.declared.way.Way.{Way}
use Rattle.be_descent.specs.Fronts.{lying, IsAdded}
use Rattle.be_descent.specs.Places.{has_moved}
use Rattle.be_descent.proofs.CountLemmas.{view_first, lying_next, parent_is}

-- what views from a number on are still to add, beside what was added
abbrev pub with_rest : List Rect → Tree → ℕ → ℕ → Way → ℤ → ℤ → Bool
with_rest frames tree k v way x y =
    region_has frames x y || covers (drop k tree) v (x -ℤ way.right) (y -ℤ way.down)

covers_next : (tree : Tree) (k v : ℕ) (w : View) (x y : ℤ) → slice_get tree k ≡ Some w
    → covers (drop k tree) v x y ≡ ((is_number v w.parent && rect_has w.frame x y)
    || covers (drop (k + 1) tree) v x y)
covers_next tree k v w x y got =
    let n : suc k ≡ k + 1 = omega arith in
    ap (λ l. covers l v x y) (view_first tree k w got)
    ∙ ap (λ m. (is_number v w.parent && rect_has w.frame x y) || covers (drop m tree) v x y) n

one_added : (a m n c : Bool) → n ≡ true → ((a || m) || c) ≡ (a || ((n && m) || c))
one_added true m n c h = refl
one_added false true n c h = sym (ap (λ b. (b && true) || c) h)
one_added false false n c h = sym (ap (λ b. (b && false) || c) h)

none_added : (a m n c : Bool) → n ≡ false → (a || c) ≡ (a || ((n && m) || c))
none_added true m n c h = refl
none_added false m n c h = sym (ap (λ b. (b && m) || c) h)

pub rest_added : (old now : List Rect) (tree : Tree) (k v : ℕ) (way : Way) (area : Rect)
    → k < length tree → is_number v (parent_of tree k) ≡ true → IsAdded tree k way area old now
    → (x y : ℤ) → rect_has area x y ≡ true
    → with_rest now tree (k + 1) v way x y ≡ with_rest old tree k v way x y
rest_added old now tree k v way area less lies added x y has =
    let view = view_there tree k less in
    let w = view.0 in
    let got = view.1 in
    ap (λ b. b || covers (drop (k + 1) tree) v (x -ℤ way.right) (y -ℤ way.down))
    (added w x y got has) ∙ one_added (region_has old x y) (has_moved w.frame way x y)
    (is_number v w.parent) (covers (drop (k + 1) tree) v (x -ℤ way.right) (y -ℤ way.down))
    (ap (is_number v) (sym (parent_is tree k w got)) ∙ lies)
    ∙ ap (λ b. region_has old x y || b)
    (sym (covers_next tree k v w (x -ℤ way.right) (y -ℤ way.down) got))

pub rest_passed : (old : List Rect) (tree : Tree) (k v : ℕ) (way : Way) → k < length tree
    → is_number v (parent_of tree k) ≡ false → (x y : ℤ)
    → with_rest old tree (k + 1) v way x y ≡ with_rest old tree k v way x y
rest_passed old tree k v way less lies x y =
    let view = view_there tree k less in
    let w = view.0 in
    let got = view.1 in
    none_added (region_has old x y) (has_moved w.frame way x y) (is_number v w.parent)
    (covers (drop (k + 1) tree) v (x -ℤ way.right) (y -ℤ way.down))
    (ap (is_number v) (sym (parent_is tree k w got)) ∙ lies)
    ∙ ap (λ b. region_has old x y || b)
    (sym (covers_next tree k v w (x -ℤ way.right) (y -ℤ way.down) got))

pub rest_none : (now : List Rect) (tree : Tree) (k v : ℕ) (way : Way) (x y : ℤ) → length tree ≤ k
    → region_has now x y ≡ with_rest now tree k v way x y
rest_none now tree k v way x y end =
    sym (ap (λ l. region_has now x y || covers l v (x -ℤ way.right) (y -ℤ way.down))
    (drop_all k tree end) ∙ or_false (region_has now x y))

lying_at : (tree : Tree) (k v : ℕ) (b : Bool) → k < length tree → is_number v (parent_of tree k) ≡ b
    → lying v (drop k tree) ≡ cond b 1 0 + lying v (drop (k + 1) tree)
lying_at tree k v b less lies =
    let view = view_there tree k less in
    lying_next tree k v view.0 view.1 ∙ ap (λ t. cond t 1 0 + lying v (drop (k + 1) tree))
    (ap (is_number v) (sym (parent_is tree k view.0 view.1)) ∙ lies)

pub lying_one : (tree : Tree) (k v : ℕ) → k < length tree → is_number v (parent_of tree k) ≡ true
    → lying v (drop k tree) ≡ suc (lying v (drop (k + 1) tree))
lying_one tree k v less lies = let e = lying_at tree k v true less lies in omega arith

pub lying_none : (tree : Tree) (k v : ℕ) → k < length tree → is_number v (parent_of tree k) ≡ false
    → lying v (drop k tree) ≡ lying v (drop (k + 1) tree)
lying_none tree k v less lies = let e = lying_at tree k v false less lies in omega arith
