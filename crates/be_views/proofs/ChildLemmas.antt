-- The views that lie in one directly, and the way down to the last that holds a pixel.
use Rattle.std.specs.Prelude.{find, reverse, option_map}
use Rattle.std.proofs.lemmas.Option.{none-some, same_Some}
use Rattle.std.proofs.Common.{◌≡◌, ℕ, ◌+◌, ◌-◌, ◌<◌, ◌≤◌, zero, suc, ℤ, ◌-ℤ◌, ◌≤ℤ◌, Bool, true, false, ◌&&◌, cond, List, [], ◌∷◌, ◌++◌, Option, Some, None, length, get_or, take, arith, refl, sym, ap, ◌∙◌}
use Rattle.std.proofs.lemmas.Bool.{and_parts}
use Rattle.std.proofs.lemmas.List.{take_more, length-take, reverse-append, append-nil}
use Rattle.be_geom.specs.declared.rect.Rect.{Rect}
use Rattle.be_geom.specs.Numbers.{is_number}
use Rattle.be_geom.specs.Points.{between}
use Rattle.be_geom.specs.Rects.{rect_has}
use Rattle.be_geom.proofs.Between.{between_parts}
use Rattle.be_views.specs.Trees.{View, Tree, children_from}
use Rattle.be_views.specs.Pixels.{last_child_at, descended, view_below}

pub in_frame : (f : Rect) (x y : ℤ) → rect_has f x y ≡ true → (f.left ≤ℤ x) × (x ≤ℤ f.right) × (f.top ≤ℤ y) × (y ≤ℤ f.bottom)
in_frame f x y h =
    let parts = and_parts (between f.left x f.right) (between f.top y f.bottom) h in
    let across = between_parts f.left f.right x parts.0 in
    let down = between_parts f.top f.bottom y parts.1 in
    (across.0, across.1, down.0, down.1)

-- ---- one more view

abbrev one_child : Bool → ℕ → View → List (ℕ × View)
one_child b k w = cond b ((k, w) ∷ []) []

pushed_on : (b : Bool) (k : ℕ) (u : View) (l m : List (ℕ × View)) (n o : List (ℕ × View)) → l ≡ m ++ n → n ≡ o → cond b ((k, u) ∷ l) l ≡ cond b ((k, u) ∷ m) m ++ o
pushed_on true k u l m n o e f = rw (e, f) refl
pushed_on false k u l m n o e f = rw (e, f) refl

children-push : (k v : ℕ) (xs : Tree) (w : View) → children_from k v (xs ++ w ∷ []) ≡ children_from k v xs ++ one_child (is_number v w.parent) (k + length xs) w
children-push k v [] w = ap (λ n. one_child (is_number v w.parent) n w) (omega arith)
children-push k v (u ∷ xs) w =
    pushed_on (is_number v u.parent) k u (children_from (suc k) v (xs ++ w ∷ [])) (children_from (suc k) v xs) (one_child (is_number v w.parent) (suc k + length xs) w) (one_child (is_number v w.parent) (k + suc (length xs)) w) (children-push (suc k) v xs w) (ap (λ n. one_child (is_number v w.parent) n w) (omega arith))

last-push : (p : ℕ × View → Bool) (b : Bool) (ys : List (ℕ × View)) (k : ℕ) (w : View) → find p (reverse (ys ++ one_child b k w)) ≡ cond (b && p (k, w)) (Some (k, w)) (find p (reverse ys))
last-push p true ys k w = ap (find p) (reverse-append ys ((k, w) ∷ []))
last-push p false ys k w = ap (λ l. find p (reverse l)) (append-nil ys)

child_more : (tree : Tree) (i v : ℕ) (x y : ℤ) (d : View) → i < length tree → last_child_at (take (i + 1) tree) v x y ≡ cond (is_number v (get_or tree i d).parent && rect_has (get_or tree i d).frame x y) (Some (i, get_or tree i d)) (last_child_at (take i tree) v x y)
child_more tree i v x y d h =
    let p : ℕ × View → Bool = λ child. rect_has child.1.frame x y in
    let w = get_or tree i d in
    let n : 0 + length (take i tree) ≡ i = omega (arith, length-take i tree) in
    ap (λ l. find p (reverse (children_from 0 v l))) (take_more tree i d h) ∙ ap (λ l. find p (reverse l)) (children-push 0 v (take i tree) w) ∙ ap (λ k. find p (reverse (children_from 0 v (take i tree) ++ one_child (is_number v w.parent) k w))) n ∙ last-push p (is_number v w.parent) (children_from 0 v (take i tree)) i w

-- a child's number and its frame
abbrev pub framed : ℕ × View → ℕ × Rect
framed child = (child.0, child.1.frame)

read_more : (tree : Tree) (i v : ℕ) (x y : ℤ) (view : View) (b : Bool) → i < length tree → view ≡ get_or tree i view → (is_number v view.parent && rect_has view.frame x y) ≡ b → last_child_at (take (i + 1) tree) v x y ≡ cond b (Some (i, view)) (last_child_at (take i tree) v x y)
read_more tree i v x y view b h read is = child_more tree i v x y view h ∙ ap (λ w. cond (is_number v w.parent && rect_has w.frame x y) (Some (i, w)) (last_child_at (take i tree) v x y)) (sym read) ∙ ap (λ c. cond c (Some (i, view)) (last_child_at (take i tree) v x y)) is

-- ---- from the last view down

last_of_first : (tree : Tree) (k v : ℕ) (x y : ℤ) (view : View) (b : Bool) → 0 < k → k ≤ length tree → view ≡ get_or tree (k - 1) view → (is_number v view.parent && rect_has view.frame x y) ≡ b → last_child_at (take k tree) v x y ≡ cond b (Some (k - 1, view)) (last_child_at (take (k - 1) tree) v x y)
last_of_first tree k v x y view b some h read is =
    let e : k ≡ k - 1 + 1 = omega arith in
    ap (λ n. last_child_at (take n tree) v x y) e ∙ read_more tree (k - 1) v x y view b (omega arith) read is

-- a view that isn't such a child
pub passes_child : (tree : Tree) (k v : ℕ) (x y : ℤ) (view : View) → 0 < k → k ≤ length tree → view ≡ get_or tree (k - 1) view → (is_number v view.parent && rect_has view.frame x y) ≡ false → last_child_at tree v x y ≡ last_child_at (take k tree) v x y → last_child_at tree v x y ≡ last_child_at (take (k - 1) tree) v x y
passes_child tree k v x y view some h read out before = before ∙ last_of_first tree k v x y view false some h read out

-- and the first one that is
pub meets_child : (tree : Tree) (k v : ℕ) (x y : ℤ) (view : View) → 0 < k → k ≤ length tree → view ≡ get_or tree (k - 1) view → (is_number v view.parent && rect_has view.frame x y) ≡ true → last_child_at tree v x y ≡ last_child_at (take k tree) v x y → Some (k - 1, view.frame) ≡ option_map framed (last_child_at tree v x y)
meets_child tree k v x y view some h read inside before =
    ap (option_map framed) (sym (before ∙ last_of_first tree k v x y view true some h read inside))

pub both_are : (p q b c : Bool) → p ≡ b → q ≡ c → (p && q) ≡ (b && c)
both_are p q b c e f = rw (e, f) refl

-- ---- the way down

goes_down : (below : ℕ → ℤ → ℤ → ℕ) (v : ℕ) (x y : ℤ) (child : ℕ × Rect) (found : Option (ℕ × View)) → Some child ≡ option_map framed found → descended below v x y found ≡ below child.0 (x -ℤ child.1.left) (y -ℤ child.1.top)
goes_down below v x y child (Some inner) h = ap (λ c. below c.0 (x -ℤ c.1.left) (y -ℤ c.1.top)) (sym (same_Some child (framed inner) h))
goes_down below v x y child None h = absurd (none-some child (sym h))

stays : (below : ℕ → ℤ → ℤ → ℕ) (v : ℕ) (x y : ℤ) (found : Option (ℕ × View)) → None ≡ option_map framed found → descended below v x y found ≡ v
stays below v x y (Some inner) h = absurd (none-some (framed inner) h)
stays below v x y None h = refl

pub below_none : (n : ℕ) (tree : Tree) (v : ℕ) (x y : ℤ) → None ≡ option_map framed (last_child_at tree v x y) → view_below n tree v x y ≡ v
below_none zero tree v x y h = refl
below_none (suc n) tree v x y h = stays (view_below n tree) v x y (last_child_at tree v x y) h

pub below_some : (n : ℕ) (tree : Tree) (v : ℕ) (x y : ℤ) (child : ℕ × Rect) → 0 < n → Some child ≡ option_map framed (last_child_at tree v x y) → view_below n tree v x y ≡ view_below (n - 1) tree child.0 (x -ℤ child.1.left) (y -ℤ child.1.top)
below_some zero tree v x y child k h = absurd (omega arith)
below_some (suc n) tree v x y child k h = goes_down (view_below n tree) v x y child (last_child_at tree v x y) h ∙ ap (λ m. view_below m tree child.0 (x -ℤ child.1.left) (y -ℤ child.1.top)) (omega arith)

pub next_below : (n i : ℕ) (tree : Tree) (v : ℕ) (x y : ℤ) (child : ℕ × Rect) (x' y' : ℤ) (total : ℕ) → i < n → Some child ≡ option_map framed (last_child_at tree v x y) → x' ≡ (x -ℤ child.1.left) → y' ≡ (y -ℤ child.1.top) → view_below (n - i) tree v x y ≡ total → view_below (n - (i + 1)) tree child.0 x' y' ≡ total
next_below n i tree v x y child x' y' total h e p q before =
    rw (p, q) (ap (λ m. view_below m tree child.0 (x -ℤ child.1.left) (y -ℤ child.1.top)) (omega arith) ∙ sym (below_some (n - i) tree v x y child (omega arith) e) ∙ before)
