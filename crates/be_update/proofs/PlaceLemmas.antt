-- A pixel at which a view is lies not far left of the view's place, nor far above it.
use Rattle.std.proofs.Common.{◌≡◌, ℕ, ◌+◌, zero, suc, ℤ, pos, ◌+ℤ◌, ◌-ℤ◌, ◌≤ℤ◌, Bool, true, false, cond, [], Option, Some, None, length, ◌<◌, arith, refl, sym, ap, subst, ◌∙◌}
use Rattle.std.specs.Prelude.{slice_get, option_and_then}
use Rattle.std.specs.Option.{option_map}
use Rattle.std.proofs.lemmas.Bool.{false≢true, eqb-true}
use Rattle.std.proofs.lemmas.Int.{ints}
use Rattle.std.proofs.lemmas.Option.{none-some, same_Some}
use Rattle.be_geom.specs.Numbers.{is_number}
use Rattle.be_geom.specs.declared.point.Point.{Point}
use Rattle.be_geom.specs.Places.{sum_of}
use Rattle.be_geom.specs.Rects.{rect_has}
use Rattle.be_views.specs.Trees.{View, Tree, corner_in, left_top, place_from, place_of}
use Rattle.be_views.specs.Whole.{AreParentsFirst, IsTree}
use Rattle.be_views.specs.Pixels.{descended, last_child_at, view_at, view_below}
use Rattle.be_views.proofs.ChildLemmas.{in_frame}
use Rattle.be_views.proofs.FrontLemmas.{child_is}
use Rattle.be_views.proofs.TreeLemmas.{root_of}

-- ---- places, climbed by more steps

more_of : (a b : Option Point) (corner q : Point) → ((p : Point) → a ≡ Some p → b ≡ Some p) → option_map (sum_of corner) a ≡ Some q → option_map (sum_of corner) b ≡ Some q
more_of (Some p) b corner q h e = ap (option_map (sum_of corner)) (h p refl) ∙ e
more_of None b corner q h e = absurd (none-some q e)

more_corner : (n k : ℕ) (tree : Tree) (frame : _) (parent : Option ℕ) (q : Point) → ((v : ℕ) (p : Point) → place_from n tree v ≡ Some p → place_from (n + k) tree v ≡ Some p) → corner_in (place_from n tree) frame parent ≡ Some q → corner_in (place_from (n + k) tree) frame parent ≡ Some q
more_corner n k tree frame None q h e = e
more_corner n k tree frame (Some v) q h e = more_of (place_from n tree v) (place_from (n + k) tree v) (left_top frame) q (h v) e

more_view : (n k : ℕ) (tree : Tree) (o : Option View) (q : Point) → ((v : ℕ) (p : Point) → place_from n tree v ≡ Some p → place_from (n + k) tree v ≡ Some p) → option_and_then (λ view. corner_in (place_from n tree) view.frame view.parent) o ≡ Some q → option_and_then (λ view. corner_in (place_from (n + k) tree) view.frame view.parent) o ≡ Some q
more_view n k tree (Some view) q h e = more_corner n k tree view.frame view.parent q h e
more_view n k tree None q h e = absurd (none-some q e)

over : (n k : ℕ) → suc n + k ≡ suc (n + k)
over n k = omega arith

place_more : (n k : ℕ) (tree : Tree) (v : ℕ) (q : Point) → place_from n tree v ≡ Some q → place_from (n + k) tree v ≡ Some q
place_more zero k tree v q e = absurd (none-some q e)
place_more (suc n) k tree v q e =
    ap (λ m. place_from m tree v) (over n k) ∙ more_view n k tree (slice_get tree v) q (λ u p. place_more n k tree u p) e

turned : (n m : ℕ) → n + m ≡ m + n
turned n m = omega arith

same_place : (n m : ℕ) (tree : Tree) (v : ℕ) (p q : Point) → place_from n tree v ≡ Some p → place_from m tree v ≡ Some q → p ≡ q
same_place n m tree v p q e f =
    same_Some p q (sym (place_more n m tree v p e) ∙ ap (λ k. place_from k tree v) (turned n m) ∙ place_more m n tree v q f)

-- ---- the way down

-- the view's place, climbed by some steps, and how far right and down it can lie
pub record IsNotPast (tree : Tree) (v : ℕ) (right bottom : ℤ) : Type 0 where
  pub steps : ℕ
  pub place : Point
  pub is : place_from steps tree v ≡ Some place
  pub across : place.x ≤ℤ right
  pub down : place.y ≤ℤ bottom

child_place : (tree : Tree) (u c : ℕ) (w : View) (k : ℕ) (q : Point) → slice_get tree c ≡ Some w → w.parent ≡ Some u → place_from k tree u ≡ Some q → place_from (suc k) tree c ≡ Some (sum_of (left_top w.frame) q)
child_place tree u c w k q got lies e =
    ap (λ (o : Option View). option_and_then (λ view. corner_in (place_from k tree) view.frame view.parent) o) got
    ∙ ap (corner_in (place_from k tree) w.frame) lies
    ∙ ap (option_map (sum_of (left_top w.frame))) e

abbrev Below : ℕ → Tree → ℤ → ℤ → Type 0
Below n tree right bottom = (u : ℕ) (x y : ℤ) (k : ℕ) (q : Point) → place_from k tree u ≡ Some q → q.x ≤ℤ right → q.y ≤ℤ bottom → (q.x +ℤ x) ≤ℤ right → (q.y +ℤ y) ≤ℤ bottom → IsNotPast tree (view_below n tree u x y) right bottom

right_of : (left x q right : ℤ) → left ≤ℤ x → (q +ℤ x) ≤ℤ right → (left +ℤ q) ≤ℤ right
right_of left x q right a b = omega (arith, ints)

still : (left x q right : ℤ) → (q +ℤ x) ≤ℤ right → ((left +ℤ q) +ℤ (x -ℤ left)) ≤ℤ right
still left x q right b = omega (arith, ints)

descend : (n : ℕ) (tree : Tree) (u : ℕ) (x y right bottom : ℤ) (k : ℕ) (q : Point) → place_from k tree u ≡ Some q → q.x ≤ℤ right → q.y ≤ℤ bottom → (q.x +ℤ x) ≤ℤ right → (q.y +ℤ y) ≤ℤ bottom → Below n tree right bottom → (found : Option (ℕ × View)) → last_child_at tree u x y ≡ found → IsNotPast tree (descended (view_below n tree) u x y found) right bottom
descend n tree u x y right bottom k q e a b c d next None is = record { steps = k; place = q; is = e; across = a; down = b }
descend n tree u x y right bottom k q e a b c d next (Some child) is =
    let found = child_is tree u x y child is in
    let frame = child.1.frame in
    let inside = in_frame frame x y found.holds in
    next child.0 (x -ℤ frame.left) (y -ℤ frame.top) (suc k) (sum_of (left_top frame) q)
    (child_place tree u child.0 child.1 k q found.got found.lies e)
    (right_of frame.left x q.x right inside.0 c) (right_of frame.top y q.y bottom inside.2 d) (still frame.left x q.x right c) (still frame.top y q.y bottom d)

down_from : (n : ℕ) (tree : Tree) (right bottom : ℤ) → Below n tree right bottom
down_from zero tree right bottom u x y k q e a b c d = record { steps = k; place = q; is = e; across = a; down = b }
down_from (suc n) tree right bottom u x y k q e a b c d =
    descend n tree u x y right bottom k q e a b c d (down_from n tree right bottom) (last_child_at tree u x y) refl

-- ---- from the root on

root_place : (n : ℕ) (tree : Tree) (root : View) → 0 < n → slice_get tree 0 ≡ Some root → root.parent ≡ None → place_from n tree 0 ≡ Some (left_top root.frame)
root_place zero tree root h got top = absurd (omega arith)
root_place (suc n) tree root h got top =
    ap (λ (o : Option View). option_and_then (λ view. corner_in (place_from n tree) view.frame view.parent) o) got
    ∙ ap (corner_in (place_from n tree) root.frame) top

from_root : (tree : Tree) (root : View) (x y right bottom : ℤ) → 0 < length tree → slice_get tree 0 ≡ Some root → root.parent ≡ None → rect_has root.frame x y ≡ true → x ≤ℤ pos 32767 → y ≤ℤ pos 32767 → right ≡ x +ℤ pos 32767 → bottom ≡ y +ℤ pos 32767 → IsNotPast tree (view_below (length tree) tree 0 x y) right bottom
from_root tree root x y right bottom some got top has a b e f =
    let inside = in_frame root.frame x y has in
    let l = inside.0 in
    let t = inside.2 in
    down_from (length tree) tree right bottom 0 x y (length tree) (left_top root.frame) (root_place (length tree) tree root some got top)
    (omega (arith, ints)) (omega (arith, ints)) (omega (arith, ints)) (omega (arith, ints))

at_view : (v : ℕ) (b : Bool) (u : ℕ) → is_number v (cond b (Some u) None) ≡ true → (b ≡ true) × (u ≡ v)
at_view v true u h = (refl, eqb-true u v h)
at_view v false u h = absurd (false≢true h)

not_below : (p : ℕ) → p < 0 → ⊥
not_below p h = omega arith

parent_none : (tree : Tree) (root : View) → AreParentsFirst tree → slice_get tree 0 ≡ Some root → (o : Option ℕ) → root.parent ≡ o → o ≡ None
parent_none tree root first got None e = refl
parent_none tree root first got (Some p) e =
    absurd (not_below p (first.below 0 p (ap (λ (o : Option View). option_and_then (λ view. view.parent) o) got ∙ e)))

-- a view's place is at most 32767 columns right of each pixel that it has, and as many rows below it
pub near_place : (tree : Tree) (v : ℕ) (x y : ℤ) (p : Point) → IsTree tree → is_number v (view_at tree x y) ≡ true → place_of tree v ≡ Some p → x ≤ℤ pos 32767 → y ≤ℤ pos 32767 → (p.x ≤ℤ (x +ℤ pos 32767)) × (p.y ≤ℤ (y +ℤ pos 32767))
unfolding view_at place_of
near_place tree v x y p whole here place a b =
    let root = root_of tree whole.some in
    let top = parent_none tree root.0 whole.parents root.1 root.0.parent refl in
    let found = at_view v (rect_has root.0.frame x y) (view_below (length tree) tree 0 x y) (sym (ap (λ (o : Option View). is_number v (option_and_then (λ r. cond (rect_has r.frame x y) (Some (view_below (length tree) tree 0 x y)) None) o)) root.1) ∙ here) in
    let past = from_root tree root.0 x y (x +ℤ pos 32767) (y +ℤ pos 32767) whole.some root.1 top found.0 a b refl refl in
    let same = same_place past.steps (length tree) tree v past.place p (ap (place_from past.steps tree) (sym found.1) ∙ past.is) place in
    (subst (λ (q : Point). q.x ≤ℤ (x +ℤ pos 32767)) same past.across, subst (λ (q : Point). q.y ≤ℤ (y +ℤ pos 32767)) same past.down)
