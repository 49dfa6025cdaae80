-- Which pixels of the window are a view's own.
use Rattle.std.specs.Prelude.{slice_get, option_and_then, is_some}
use Rattle.std.proofs.Common.{◌≡◌, ℕ, ◌+◌, ◌-◌, ◌<◌, ◌≤◌, ◌==◌, suc, ℤ, pos, ◌+ℤ◌, ◌-ℤ◌, ◌≤ℤ◌, ◌<ℤ◌, negsuc, Bool, true, false, not, ◌&&◌, ◌||◌, cond, inl, inr, List, Option, Some, None, length, get_or, take, drop, SFits, w16, w32, rules, arith, refl, sym, ap, subst, ◌∙◌}
use Rattle.std.proofs.lemmas.Bool.{and_parts, and_right, and_cases, and_from, false≢true, false_from_ne_true, eq-eqb, ne_eqb, not-true}
use Rattle.std.proofs.lemmas.Int.{ints, clamps}
use Rattle.std.specs.Int.{int_max, int_min}
use Rattle.std.proofs.lemmas.List.{take_rest}
use Rattle.std.proofs.lemmas.List.Folds.{list_any_more}
use Rattle.std.proofs.lemmas.Option.{none-some, same_Some}
use Rattle.be_facts.proofs.Numbers.{fits_16}
use Rattle.be_facts.proofs.Truths.{or_false}
use Rattle.be_geom.specs.declared.rect.Rect.{Rect}
use Rattle.be_geom.specs.Numbers.{is_number}
use Rattle.be_geom.specs.Points.{between, in_range}
use Rattle.be_geom.specs.Rects.{rect_has}
use Rattle.be_geom.proofs.Between.{between_tells, between_parts, is_between, is_below, is_above}
use Rattle.be_region.specs.Regions.{region_has, IsDifference, IsIntersection}
use Rattle.be_views.specs.Clips.{covers, IsClip, IsInRange, HasPixelsMoved, IsUncovered, ComesBy, IsOutside, IsReach}
use Rattle.be_geom.specs.Places.{IsNear}
use Rattle.be_geom.proofs.Numbered.{number_is as number_some}
use Rattle.be_views.proofs.ChildLemmas.{in_frame}
use Rattle.be_views.specs.Trees.{View, Tree, parent_of, lies_within}
use Rattle.be_views.specs.Pixels.{last_child_at, view_below, view_at}
use Rattle.be_views.specs.Whole.{AreParentsFirst}
use Rattle.be_views.proofs.FrontLemmas.{child_is, covers_is, in_front, none_in_front}
use Rattle.be_views.proofs.KinLemmas.{ends_within, within_self, within_below, within_child, one_child, parent_read, goes_on, stops}

-- ---- the root

view_in : (tree : Tree) (root : View) (x y : ℤ) → slice_get tree 0 ≡ Some root → view_at tree x y ≡ cond (rect_has root.frame x y) (Some (view_below (length tree) tree 0 x y)) None
unfolding view_at
view_in tree root x y got =
    ap (λ o. option_and_then (λ (w : View). cond (rect_has w.frame x y) (Some (view_below (length tree) tree 0 x y)) None) o) got

none_outside : (tree : Tree) (v : ℕ) (o : Option ℕ) → o ≡ None → IsOutside tree v o
none_outside tree v o h u e = absurd (none-some u (sym h ∙ e))

pub root_reach : (tree : Tree) (root : View) (rs : List Rect) → slice_get tree 0 ≡ Some root → ((x y : ℤ) → region_has rs x y ≡ rect_has root.frame x y) → IsReach tree 0 (pos 0) (pos 0) rs
root_reach tree root rs got has = record {
  inside = λ x y h. let a : x -ℤ pos 0 ≡ x = omega (arith, ints) in let b : y -ℤ pos 0 ≡ y = omega (arith, ints) in rw (a, b) (length tree, (omega arith, view_in tree root x y got ∙ ap (λ t. cond t (Some (view_below (length tree) tree 0 x y)) None) (sym (has x y) ∙ h)));
  outside = λ x y h. none_outside tree 0 (view_at tree x y) (view_in tree root x y got ∙ ap (λ t. cond t (Some (view_below (length tree) tree 0 x y)) None) (sym (has x y) ∙ h));
}

-- ---- from a view to one in it

-- what is known of a view and of its parent
pub record IsIn (tree : Tree) (u c : ℕ) (w : View) : Type 0 where
  pub first : AreParentsFirst tree
  pub there : c < length tree
  pub got : slice_get tree c ≡ Some w
  pub parent : w.parent ≡ Some u

pub in_parent : (tree : Tree) (u c : ℕ) (w : View) → IsIn tree u c w → parent_of tree c ≡ Some u
in_parent tree u c w h = ap (λ o. option_and_then (λ (v : View). v.parent) o) h.got ∙ h.parent

pub is_lying : (tree : Tree) (u c : ℕ) (w : View) → IsIn tree u c w → is_number u w.parent ≡ true
is_lying tree u c w h = ap (is_number u) h.parent ∙ eq-eqb u u refl

-- the way that comes by a view comes by the child that is in front
by_child : (tree : Tree) (u c : ℕ) (w : View) (x y left top : ℤ) (found : Option ℕ) → IsIn tree u c w → rect_has w.frame (x -ℤ left) (y -ℤ top) ≡ true → covers (drop (c + 1) tree) u (x -ℤ left) (y -ℤ top) ≡ false → ComesBy tree u (x -ℤ left) (y -ℤ top) found → ComesBy tree c (x -ℤ (left +ℤ w.frame.left)) (y -ℤ (top +ℤ w.frame.top)) found
by_child tree u c w x y left top found h holds free by =
    let steps = by.0 in
    let many = by.1.0 in
    let there = h.there in
    let below = h.first.below c u (in_parent tree u c w h) in
    let a : x -ℤ (left +ℤ w.frame.left) ≡ x -ℤ left -ℤ w.frame.left = omega (arith, ints) in
    let b : y -ℤ (top +ℤ w.frame.top) ≡ y -ℤ top -ℤ w.frame.top = omega (arith, ints) in
    let front = in_front tree u c (x -ℤ left) (y -ℤ top) w h.got (is_lying tree u c w h) holds free in
    let n : steps ≡ suc (steps - 1) = omega arith in
    rw (a, b) (steps - 1, (omega arith, by.1.1 ∙ ap (λ k. Some (view_below k tree u (x -ℤ left) (y -ℤ top))) n ∙ ap (λ v. Some v) (goes_on (steps - 1) tree u (x -ℤ left) (y -ℤ top) (c, w) front)))

-- the way that ends in a child comes by it
pub front_is : (tree : Tree) (u c : ℕ) (w : View) (n k r : ℕ) (x y : ℤ) (o : Option (ℕ × View)) → IsIn tree u c w → last_child_at tree u x y ≡ o → view_below (suc n) tree u x y ≡ r → lies_within k tree c r ≡ true → (rect_has w.frame x y && not (covers (drop (c + 1) tree) u x y)) ≡ true
front_is tree u c w n k r x y None h is ends lies =
    let e : u ≡ r = sym (stops (suc n) tree u x y is) ∙ ends in
    let low = within_below k tree c r h.first lies in
    let below = h.first.below c u (in_parent tree u c w h) in
    absurd (omega arith)
front_is tree u c w n k r x y (Some d) h is ends lies =
    let child = child_is tree u x y d is in
    let in_d = ends_within n tree d.0 (x -ℤ d.1.frame.left) (y -ℤ d.1.frame.top) in
    let e : view_below n tree d.0 (x -ℤ d.1.frame.left) (y -ℤ d.1.frame.top) ≡ r = sym (goes_on n tree u x y d is) ∙ ends in
    let number : d.0 ≡ c = one_child n tree k u d.0 c r h.first (parent_read tree u x y d child) (in_parent tree u c w h) (ap (lies_within n tree d.0) (sym e) ∙ in_d) lies in
    let view : d.1 ≡ w = same_Some d.1 w (sym child.got ∙ ap (slice_get tree) number ∙ h.got) in
    and_from (rect_has w.frame x y) (not (covers (drop (c + 1) tree) u x y)) (ap (λ (v : View). rect_has v.frame x y) (sym view) ∙ child.holds) (ap not (ap (λ m. covers (drop (m + 1) tree) u x y) (sym number) ∙ none_in_front tree u x y d is))

pub by_front : (tree : Tree) (u c : ℕ) (w : View) (k r : ℕ) (x y : ℤ) (found : Option ℕ) → IsIn tree u c w → ComesBy tree u x y found → found ≡ Some r → lies_within k tree c r ≡ true → (rect_has w.frame x y && not (covers (drop (c + 1) tree) u x y)) ≡ true
by_front tree u c w k r x y found h by is lies =
    let many = by.1.0 in
    let there = h.there in
    let below = h.first.below c u (in_parent tree u c w h) in
    let n : by.0 ≡ suc (by.0 - 1) = omega arith in
    front_is tree u c w (by.0 - 1) k r x y (last_child_at tree u x y) h refl (ap (λ m. view_below m tree u x y) (sym n) ∙ same_Some (view_below by.0 tree u x y) r (sym by.1.1 ∙ is)) lies

in_or_out : (tree : Tree) (u c : ℕ) (w : View) (k r : ℕ) (left top x y : ℤ) → IsIn tree u c w → (b : Bool) (rs : List Rect) → IsReach tree u left top rs → region_has rs x y ≡ b → view_at tree x y ≡ Some r → lies_within k tree c r ≡ true → (rect_has w.frame (x -ℤ left) (y -ℤ top) && not (covers (drop (c + 1) tree) u (x -ℤ left) (y -ℤ top))) ≡ false → ⊥
in_or_out tree u c w k r left top x y h true rs reach is found lies out =
    false≢true (sym out ∙ by_front tree u c w k r (x -ℤ left) (y -ℤ top) (view_at tree x y) h (reach.inside x y is) found lies)
in_or_out tree u c w k r left top x y h false rs reach is found lies out =
    false≢true (sym (reach.outside x y is r found (suc k)) ∙ within_child k tree u c r (in_parent tree u c w h) lies)

-- the pixels from which the way comes by a view, cut by a frame in it and less what is in front, are those from which it
-- comes by the view of the frame
pub child_reach : (tree : Tree) (u c : ℕ) (w : View) (left top : ℤ) (rs cut : List Rect) → IsIn tree u c w → IsReach tree u left top rs → ((x y : ℤ) → region_has cut x y ≡ (region_has rs x y && (rect_has w.frame (x -ℤ left) (y -ℤ top) && not (covers (drop (c + 1) tree) u (x -ℤ left) (y -ℤ top))))) → IsReach tree c (left +ℤ w.frame.left) (top +ℤ w.frame.top) cut
child_reach tree u c w left top rs cut h reach has = record {
  inside = λ x y e. let parts = and_parts (region_has rs x y) (rect_has w.frame (x -ℤ left) (y -ℤ top) && not (covers (drop (c + 1) tree) u (x -ℤ left) (y -ℤ top))) (sym (has x y) ∙ e) in let tests = and_parts (rect_has w.frame (x -ℤ left) (y -ℤ top)) (not (covers (drop (c + 1) tree) u (x -ℤ left) (y -ℤ top))) parts.1 in by_child tree u c w x y left top (view_at tree x y) h tests.0 (not-true (covers (drop (c + 1) tree) u (x -ℤ left) (y -ℤ top)) tests.1) (reach.inside x y parts.0);
  outside = λ x y e r is k. false_from_ne_true (lies_within k tree c r) (λ lies. elim (and_cases (region_has rs x y) (rect_has w.frame (x -ℤ left) (y -ℤ top) && not (covers (drop (c + 1) tree) u (x -ℤ left) (y -ℤ top))) (sym (has x y) ∙ e)) [ inl out ↦ false≢true (sym (reach.outside x y out r is (suc k)) ∙ within_child k tree u c r (in_parent tree u c w h) lies) | inr out ↦ in_or_out tree u c w k r left top x y h (region_has rs x y) rs reach refl is lies out ]);
}

-- ---- a view without what is in it

number_is : (v : ℕ) (o : Option ℕ) (r : ℕ) → o ≡ Some r → is_number v o ≡ (r == v)
number_is v o r h = ap (is_number v) h

pub own_or_child : (tree : Tree) (v n : ℕ) (x y : ℤ) (o : Option (ℕ × View)) → AreParentsFirst tree → last_child_at tree v x y ≡ o → (view_below (suc n) tree v x y == v) ≡ not (is_some o)
own_or_child tree v n x y None first is = ap (λ r. r == v) (stops (suc n) tree v x y is) ∙ eq-eqb v v refl
own_or_child tree v n x y (Some d) first is =
    let child = child_is tree v x y d is in
    let below = first.below d.0 v (parent_read tree v x y d child) in
    let low = within_below n tree d.0 (view_below n tree d.0 (x -ℤ d.1.frame.left) (y -ℤ d.1.frame.top)) first (ends_within n tree d.0 (x -ℤ d.1.frame.left) (y -ℤ d.1.frame.top)) in
    ap (λ r. r == v) (goes_on n tree v x y d is) ∙ ne_eqb (view_below n tree d.0 (x -ℤ d.1.frame.left) (y -ℤ d.1.frame.top)) v (λ e. omega arith)

pub own : (tree : Tree) (v : ℕ) (x y : ℤ) (found : Option ℕ) → AreParentsFirst tree → v < length tree → ComesBy tree v x y found → not (covers tree v x y) ≡ is_number v found
own tree v x y found first there by =
    let many = by.1.0 in
    let n : suc (by.0 - 1) ≡ by.0 = omega arith in
    ap not (covers_is tree v x y) ∙ sym (own_or_child tree v (by.0 - 1) x y (last_child_at tree v x y) first refl) ∙ ap (λ m. view_below m tree v x y == v) n ∙ sym (number_is v found (view_below by.0 tree v x y) by.1.1)

pub not_own : (tree : Tree) (v : ℕ) (found : Option ℕ) → IsOutside tree v found → is_number v found ≡ false
not_own tree v found h = false_from_ne_true (is_number v found) (λ e. false≢true (sym (h v (number_some v found e) 0) ∙ within_self 0 tree v))

clip_at : (tree : Tree) (v : ℕ) (x y left top : ℤ) (rs : List Rect) (b : Bool) → AreParentsFirst tree → v < length tree → IsReach tree v left top rs → region_has rs x y ≡ b → (b && not (covers tree v (x -ℤ left) (y -ℤ top))) ≡ is_number v (view_at tree x y)
clip_at tree v x y left top rs true first there reach is = own tree v (x -ℤ left) (y -ℤ top) (view_at tree x y) first there (reach.inside x y is)
clip_at tree v x y left top rs false first there reach is = sym (not_own tree v (view_at tree x y) (reach.outside x y is))

pub clip_is : (tree : Tree) (v : ℕ) (left top : ℤ) (rs cut : List Rect) → AreParentsFirst tree → v < length tree → IsReach tree v left top rs → IsUncovered cut rs tree v left top → IsClip tree v cut
clip_is tree v left top rs cut first there reach has x y =
    has x y ∙ clip_at tree v x y left top rs (region_has rs x y) first there reach refl

-- ---- frames within the window

pub edges_some : (low high by first last z : ℤ) → first ≡ int_max (low +ℤ by) (negsuc 32767) → last ≡ int_min (high +ℤ by) (pos 32767) → first ≤ℤ last → in_range z ≡ true → between first z last ≡ between low (z -ℤ by) high
edges_some low high by first last z e f h k =
    let range = between_parts (negsuc 32767) (pos 32767) z k in
    let least = range.0 in
    let most = range.1 in
    elim (between_tells first z last) [ inl i ↦ let from = i.1 in let to = i.2 in i.0 ∙ sym (is_between low (z -ℤ by) high (omega (arith, ints, clamps)) (omega (arith, ints, clamps))) | inr o ↦ o.0 ∙ sym (elim o.1 [ inl less ↦ is_below low (z -ℤ by) high (omega (arith, ints, clamps)) | inr more ↦ is_above low (z -ℤ by) high (omega (arith, ints, clamps)) ]) ]

pub edges_none : (low high by first last z : ℤ) → first ≡ int_max (low +ℤ by) (negsuc 32767) → last ≡ int_min (high +ℤ by) (pos 32767) → last <ℤ first → in_range z ≡ true → false ≡ between low (z -ℤ by) high
edges_none low high by first last z e f h k =
    let range = between_parts (negsuc 32767) (pos 32767) z k in
    let least = range.0 in
    let most = range.1 in
    elim (between_tells low (z -ℤ by) high) [ inl i ↦ let from = i.1 in let to = i.2 in absurd (omega (arith, ints, clamps)) | inr o ↦ sym o.0 ]

pub moved_pixels : (rs : List Rect) (frame : Rect) (left right top bottom dx dy : ℤ) → ((x y : ℤ) → region_has rs x y ≡ (between left x right && between top y bottom)) → ((z : ℤ) → in_range z ≡ true → between left z right ≡ between frame.left (z -ℤ dx) frame.right) → ((z : ℤ) → in_range z ≡ true → between top z bottom ≡ between frame.top (z -ℤ dy) frame.bottom) → HasPixelsMoved rs frame dx dy
moved_pixels rs frame left right top bottom dx dy has across down x y h =
    let parts = and_parts (in_range x) (in_range y) h in
    has x y ∙ ap (λ b. b && between top y bottom) (across x parts.0) ∙ ap (λ b. between frame.left (x -ℤ dx) frame.right && b) (down y parts.1)

pub no_rows : (rs : List Rect) (frame : Rect) (dx dy : ℤ) → ((x y : ℤ) → region_has rs x y ≡ false) → ((z : ℤ) → in_range z ≡ true → false ≡ between frame.top (z -ℤ dy) frame.bottom) → HasPixelsMoved rs frame dx dy
no_rows rs frame dx dy has down x y h =
    has x y ∙ sym (and_right (between frame.left (x -ℤ dx) frame.right) (between frame.top (y -ℤ dy) frame.bottom) (sym (down y (and_parts (in_range x) (in_range y) h).1)))

-- ---- what views cover taken away, one by one

less_one : (a c r m : Bool) → (a ≡ true → r ≡ m) → ((a && not c) && not r) ≡ (a && not (c || m))
less_one true true r m h = refl
less_one true false r m h = ap not (h refl)
less_one false c r m h = refl

covers_more : (views : List View) (i v : ℕ) (x y : ℤ) (d : View) → i < length views → covers (take (i + 1) views) v x y ≡ (covers (take i views) v x y || (is_number v (get_or views i d).parent && rect_has (get_or views i d).frame x y))
covers_more views i v x y d h = list_any_more (λ view. is_number v view.parent && rect_has view.frame x y) views i d h

pub uncovered_passes : (now a : List Rect) (views : List View) (i v : ℕ) (left top : ℤ) (view d : View) → i < length views → view ≡ get_or views i d → is_number v view.parent ≡ false → IsUncovered now a (take i views) v left top → IsUncovered now a (take (i + 1) views) v left top
uncovered_passes now a views i v left top view d h read out u x y =
    u x y ∙ ap (λ b. region_has a x y && not b) (sym (covers_more views i v (x -ℤ left) (y -ℤ top) d h ∙ ap (λ (w : View). covers (take i views) v (x -ℤ left) (y -ℤ top) || (is_number v w.parent && rect_has w.frame (x -ℤ left) (y -ℤ top))) (sym read) ∙ ap (λ b. covers (take i views) v (x -ℤ left) (y -ℤ top) || (b && rect_has view.frame (x -ℤ left) (y -ℤ top))) out ∙ or_false (covers (take i views) v (x -ℤ left) (y -ℤ top))))

pub uncovered_more : (new now a r : List Rect) (views : List View) (i v : ℕ) (left top : ℤ) (view d : View) → i < length views → view ≡ get_or views i d → is_number v view.parent ≡ true → IsInRange a → HasPixelsMoved r view.frame left top → IsDifference new now r → IsUncovered now a (take i views) v left top → IsUncovered new a (take (i + 1) views) v left top
uncovered_more new now a r views i v left top view d h read lies range pixels less u x y =
    less x y ∙ ap (λ b. b && not (region_has r x y)) (u x y) ∙ less_one (region_has a x y) (covers (take i views) v (x -ℤ left) (y -ℤ top)) (region_has r x y) (rect_has view.frame (x -ℤ left) (y -ℤ top)) (λ e. pixels x y (range x y e)) ∙ ap (λ b. region_has a x y && not b) (sym (covers_more views i v (x -ℤ left) (y -ℤ top) d h ∙ ap (λ (w : View). covers (take i views) v (x -ℤ left) (y -ℤ top) || (is_number v w.parent && rect_has w.frame (x -ℤ left) (y -ℤ top))) (sym read) ∙ ap (λ b. covers (take i views) v (x -ℤ left) (y -ℤ top) || (b && rect_has view.frame (x -ℤ left) (y -ℤ top))) lies))

-- ---- the calls

cut_one : (a f m n : Bool) → (a ≡ true → f ≡ m) → ((a && f) && n) ≡ (a && (m && n))
cut_one true f m n h = ap (λ b. b && n) (h refl)
cut_one false f m n h = refl

pub cut_is : (tree : Tree) (u c : ℕ) (w : View) (left top : ℤ) (rs frame both cut : List Rect) → IsInRange rs → HasPixelsMoved frame w.frame left top → IsIntersection both rs frame → IsUncovered cut both (take (length tree - (c + 1)) (drop (c + 1) tree)) u left top → (x y : ℤ) → region_has cut x y ≡ (region_has rs x y && (rect_has w.frame (x -ℤ left) (y -ℤ top) && not (covers (drop (c + 1) tree) u (x -ℤ left) (y -ℤ top))))
cut_is tree u c w left top rs frame both cut range pixels same free x y =
    free x y ∙ ap (λ l. region_has both x y && not (covers l u (x -ℤ left) (y -ℤ top))) (take_rest tree (c + 1)) ∙ ap (λ b. b && not (covers (drop (c + 1) tree) u (x -ℤ left) (y -ℤ top))) (same x y) ∙ cut_one (region_has rs x y) (region_has frame x y) (rect_has w.frame (x -ℤ left) (y -ℤ top)) (not (covers (drop (c + 1) tree) u (x -ℤ left) (y -ℤ top))) (λ e. pixels x y (range x y e))

pub both_in_range : (rs frame both : List Rect) → IsInRange rs → IsIntersection both rs frame → IsInRange both
both_in_range rs frame both range same x y h = range x y (and_parts (region_has rs x y) (region_has frame x y) (sym (same x y) ∙ h)).0

pub cut_in_range : (both cut : List Rect) (views : List View) (u : ℕ) (left top : ℤ) → IsInRange both → IsUncovered cut both views u left top → IsInRange cut
cut_in_range both cut views u left top range free x y h = range x y (and_parts (region_has both x y) (not (covers views u (x -ℤ left) (y -ℤ top))) (sym (free x y) ∙ h)).0

range_from : (z : ℤ) → negsuc 32767 ≤ℤ z → z ≤ℤ pos 32767 → in_range z ≡ true
range_from z low high = is_between (negsuc 32767) z (pos 32767) low high

pub frame_in_range : (rs : List Rect) (f : Rect) → SFits w16 f.left → SFits w16 f.top → SFits w16 f.right → SFits w16 f.bottom → ((x y : ℤ) → region_has rs x y ≡ rect_has f x y) → IsInRange rs
frame_in_range rs f a b c d has x y h =
    let p = in_frame f x y (sym (has x y) ∙ h) in
    let left = p.0 in
    let right = p.1 in
    let top = p.2 in
    let bottom = p.3 in
    and_from (in_range x) (in_range y) (range_from x (search rules) (search rules)) (range_from y (search rules) (search rules))

pub near_less : (n m : ℕ) (z : ℤ) → n ≤ m → IsNear n z → IsNear m z
near_less n m z h near = let low = near.0 in let high = near.1 in (omega (arith, ints), omega (arith, ints))

pub near_more : (u c : ℕ) (z edge : ℤ) → u < c → SFits w16 edge → IsNear u z → IsNear c (z +ℤ edge)
near_more u c z edge h f near =
    let low = near.0 in
    let high = near.1 in
    let least : negsuc 32767 ≤ℤ edge = search rules in
    let most : edge ≤ℤ pos 32767 = search rules in
    (omega (arith, ints), omega (arith, ints))

pub first_fits : (low high by first last : ℤ) → first ≡ int_max (low +ℤ by) (negsuc 32767) → last ≡ int_min (high +ℤ by) (pos 32767) → first ≤ℤ last → SFits w16 first
first_fits low high by first last e f h = fits_16 first (omega (arith, ints, clamps)) (omega (arith, ints, clamps))

pub last_fits : (low high by first last : ℤ) → first ≡ int_max (low +ℤ by) (negsuc 32767) → last ≡ int_min (high +ℤ by) (pos 32767) → first ≤ℤ last → SFits w16 last
last_fits low high by first last e f h = fits_16 last (omega (arith, ints, clamps)) (omega (arith, ints, clamps))

pub near_sum : (z edge : ℤ) → SFits w16 edge → IsNear 32 z → SFits w32 (z +ℤ edge)
near_sum z edge f near =
    let low = near.0 in
    let high = near.1 in
    search rules

pub below_in : (tree : Tree) (u c : ℕ) (w : View) → IsIn tree u c w → u < c
below_in tree u c w h = h.first.below c u (in_parent tree u c w h)

pub root_reach_at : (tree : Tree) (v : ℕ) (root : View) (rs : List Rect) → AreParentsFirst tree → v < length tree → slice_get tree v ≡ Some root → root.parent ≡ None → ((x y : ℤ) → region_has rs x y ≡ rect_has root.frame x y) → IsReach tree v (pos 0) (pos 0) rs
root_reach_at tree v root rs first there got is has =
    let e : v ≡ 0 = first.rooted v there (ap (λ o. option_and_then (λ (w : View). w.parent) o) got ∙ is) in
    subst (λ (n : ℕ). IsReach tree n (pos 0) (pos 0) rs) (sym e) (root_reach tree root rs (ap (slice_get tree) (sym e) ∙ got) has)

pub is_in : (tree : Tree) (u c : ℕ) (w : View) → AreParentsFirst tree → c < length tree → slice_get tree c ≡ Some w → w.parent ≡ Some u → IsIn tree u c w
is_in tree u c w first there got parent = record { first = first; there = there; got = got; parent = parent }
