-- From the root down to a view, on the screen.
use Rattle.std.specs.Prelude.{slice_get, option_map}
use Rattle.std.proofs.Common.{◌≡◌, ℕ, ◌+◌, ◌<◌, ◌≤◌, suc, ℤ, pos, ◌+ℤ◌, ◌-ℤ◌, Bool, true, false}
use Rattle.std.proofs.Common.{not, ◌&&◌, ◌||◌, List, [], ◌∷◌, Option, Some, None, length, drop}
use Rattle.std.proofs.Common.{SFits, w16, w32, arith, refl, sym, ap, subst, ◌∙◌}
use Rattle.std.proofs.lemmas.Bool.{and_parts, true≢false, false≢true}
use Rattle.std.proofs.lemmas.Int.{ints}
use Rattle.be_facts.proofs.Truths.{and_false, and_false_second, or_false}
use Rattle.be_geom.specs.declared.point.Point.{Point}
use Rattle.be_geom.specs.declared.rect.Rect.{Rect}
use Rattle.be_geom.specs.Places.{IsNear}
use Rattle.be_geom.specs.Rects.{rect_has}
use Rattle.be_region.specs.Regions.{region_has}
use Rattle.be_views.specs.Clips.{covers, IsOutside}
use Rattle.be_views.specs.Pixels.{view_at}
use Rattle.be_views.specs.Trees.{Tree, View, parent_of}
use Rattle.be_views.specs.Whole.{IsTree}
use Rattle.be_views.proofs.ClipLemmas.{IsIn, near_less, near_more, near_sum, root_reach, not_own}
use Rattle.be_descent.specs.declared.shown.Reached.{Reached}
use Rattle.be_descent.specs.declared.way.Way.{Way}
use Rattle.be_descent.specs.Fronts.{lying, shows, IsReached, IsShown, IsWay}
use Rattle.be_descent.specs.Places.{has_moved, IsBeside, IsPartOf}
use Rattle.be_descent.proofs.CountLemmas.{lying_more, lying_two, parent_is}
use Rattle.be_descent.proofs.ShownLemmas.{child_way, own_way}

pub view_framed : (o : Option View) (f : Rect) → option_map (λ (v : View). v.frame) o ≡ Some f
    → (w : View) × ((o ≡ Some w) × (w.frame ≡ f))
view_framed None f e = cc
view_framed (Some w) f e = (w, (refl, cc))

-- ---- the root

root_way : (tree : Tree) (root : View) (x y : ℤ) → slice_get tree 0 ≡ Some root
    → IsWay tree 0 x y (view_at tree x y) (rect_has root.frame x y)
root_way tree root x y got =
    let reach = root_reach tree root (root.frame ∷ []) got
    (λ u w. or_false (rect_has root.frame u w)) in
    let a : x -ℤ pos 0 ≡ x = omega (arith, ints) in
    let b : y -ℤ pos 0 ≡ y = omega (arith, ints) in
    record {
      inside = λ e. rw (a, b) at (reach.inside x y (or_false (rect_has root.frame x y) ∙ e));
      outside = λ e. reach.outside x y (or_false (rect_has root.frame x y) ∙ e);
    }

way_as : (tree : Tree) (v : ℕ) (x y : ℤ) (found : Option ℕ) (s t : Bool) → s ≡ t
    → IsWay tree v x y found s → IsWay tree v x y found t
way_as tree v x y found s t e h = subst (λ b. IsWay tree v x y found b) e h

root_test : (p a m n : Bool) → p ≡ (a && m) → a ≡ true → n ≡ m → n ≡ (p && true)
root_test true true m n e h f = f ∙ sym e
root_test false true m n e h f = f ∙ sym e
root_test p false m n e h f = absurd (false≢true h)

near_one : (z : ℤ) → SFits w16 z → IsNear 1 z
near_one z h = let low = h.sfits in (omega (arith, ints), omega (arith, ints))

-- the root's pixels
pub root_reached : (tree : Tree) (view : ℕ) (frame : Rect) (window : Point) (area part : Rect)
    (way : Way) (frames : List Rect) → view ≡ 0
    → option_map (λ (v : View). v.frame) (slice_get tree view) ≡ Some frame → SFits w16 window.x
    → SFits w16 window.y → way.right ≡ window.x → way.down ≡ window.y → IsPartOf part area frame way
    → frames ≡ [] → IsReached tree view window area record { area = part; way = way } frames
root_reached tree view frame window area part way frames is got f g across down of none =
    let root = view_framed (slice_get tree view) frame got in
    subst (λ (v : ℕ). IsReached tree v window area record { area = part; way = way } frames)
    (sym is) (rw none record {
      some = of.some;
      within = λ x y e. (and_parts (rect_has area x y) (has_moved frame way x y)
          (sym (of.both x y) ∙ e)).0;
      way = λ x y has.
          let u = x -ℤ window.x in
          let w = y -ℤ window.y in
          let same : rect_has root.0.frame u w ≡ has_moved frame way x y =
          rw (across, down) (ap (λ f. rect_has f u w) root.1.1) in
          rw (across, down) (way_as tree 0 u w (view_at tree u w) (rect_has root.0.frame u w)
          (rect_has part x y && true) (root_test (rect_has part x y) (rect_has area x y)
          (has_moved frame way x y) (rect_has root.0.frame u w) (of.both x y) has same)
          (root_way tree root.0 u w (ap (slice_get tree) (sym is) ∙ root.1.0)));
      across = rw across (near_one window.x f);
      down = rw down (near_one window.y g);
      few = omega arith;
    })

pub root_outside : (tree : Tree) (view : ℕ) (frame : Rect) (window : Point) (area : Rect)
    (way : Way) → view ≡ 0 → option_map (λ (v : View). v.frame) (slice_get tree view) ≡ Some frame
    → way.right ≡ window.x → way.down ≡ window.y → IsBeside area frame way → (x y : ℤ)
    → rect_has area x y ≡ true → IsOutside tree view (view_at tree (x -ℤ window.x) (y -ℤ window.y))
root_outside tree view frame window area way is got across down beside x y has =
    let root = view_framed (slice_get tree view) frame got in
    let u = x -ℤ window.x in
    let w = y -ℤ window.y in
    let same : rect_has root.0.frame u w ≡ has_moved frame way x y =
    rw (across, down) (ap (λ f. rect_has f u w) root.1.1) in
    subst (λ (v : ℕ). IsOutside tree v (view_at tree u w)) (sym is)
    ((root_way tree root.0 u w (ap (slice_get tree) (sym is) ∙ root.1.0)).outside
    (same ∙ and_false_second (rect_has area x y) (has_moved frame way x y) (beside x y) has))

-- ---- a view in another one

-- what is known of a view and the one in which it lies, from the answers of calls
-- there is the view that has a frame, and it lies in its parent
pub framed_in : (tree : Tree) (u c : ℕ) (frame : Rect) → IsTree tree → c < length tree
    → option_map (λ (v : View). v.frame) (slice_get tree c) ≡ Some frame
    → parent_of tree c ≡ Some u → (w : View) × (IsIn tree u c w × (w.frame ≡ frame))
framed_in tree u c frame whole less got is =
    let view = view_framed (slice_get tree c) frame got in
    let w = view.0 in (
      w,
      (
        record {
          first = whole.parents;
          there = less;
          got = view.1.0;
          parent = sym (parent_is tree c w view.1.0) ∙ is;
        },
        view.1.1,
      ),
    )

-- how far a view in it lies fits
pub way_fits : (u : ℕ) (z edge : ℤ) → suc u ≤ 32 → SFits w16 edge → IsNear (suc u) z
    → SFits w32 (z +ℤ edge)
way_fits u z edge few f near = near_sum z edge f (near_less (suc u) 32 z few near)

pub parent_outside : (tree : Tree) (u c : ℕ) (w : View) (found : Option ℕ) → IsIn tree u c w
    → IsOutside tree u found → IsOutside tree c found
parent_outside tree u c w found h out =
    let way : IsWay tree u (pos 0) (pos 0) found false =
    record { inside = λ e. absurd (false≢true e); outside = λ e. out } in
    (child_way tree u c w (pos 0) (pos 0) found false false h way refl).outside refl

both_off : (ra h o c : Bool) → (ra && h) ≡ false → false ≡ ((ra && not o) && (h && not c))
both_off true true o c e = absurd (true≢false e)
both_off true false o c e = sym (and_false (not o))
both_off false h o c e = refl

both_not : (o c : Bool) → not (o || c) ≡ (not o && not c)
both_not true c = refl
both_not false c = refl

child_test : (p ra h n o c : Bool) → p ≡ (ra && h) → (p ≡ true → n ≡ (o || c))
    → (p && not n) ≡ ((ra && not o) && (h && not c))
child_test true true true n o c e f = ap not (f refl) ∙ both_not o c
child_test false true true n o c e f = absurd (false≢true e)
child_test p true false n o c e f = ap (λ b. b && not n) e ∙ sym (and_false (not o))
child_test p false h n o c e f = ap (λ b. b && not n) e

pub child_outside : (tree : Tree) (u c : ℕ) (w : View) (window : Point) (area frame : Rect)
    (reached : Reached) (frames : List Rect) → IsIn tree u c w → w.frame ≡ frame
    → IsReached tree u window area reached frames → IsBeside reached.area frame reached.way
    → (x y : ℤ) → rect_has area x y ≡ true
    → IsOutside tree c (view_at tree (x -ℤ window.x) (y -ℤ window.y))
child_outside tree u c w window area frame reached frames h is reach beside x y has =
    let a = x -ℤ reached.way.right in
    let b = y -ℤ reached.way.down in
    let same : (rect_has reached.area x y && rect_has w.frame a b) ≡ false =
    ap (λ f. rect_has reached.area x y && rect_has f a b) is ∙ beside x y in
    (child_way tree u c w a b (view_at tree (x -ℤ window.x) (y -ℤ window.y))
    (rect_has reached.area x y && not (region_has frames x y)) false h (reach.way x y has)
    (both_off (rect_has reached.area x y) (rect_has w.frame a b) (region_has frames x y)
    (covers (drop (c + 1) tree) u a b) same)).outside refl

further : (x left by : ℤ) → x -ℤ left -ℤ by ≡ x -ℤ (left +ℤ by)
further x left by = omega (arith, ints)

way_at : (tree : Tree) (v : ℕ) (x y u w : ℤ) (found : Option ℕ) (t : Bool) → x ≡ u → y ≡ w
    → IsWay tree v x y found t → IsWay tree v u w found t
way_at tree v x y u w found t e f h =
    subst (λ (b : ℤ). IsWay tree v u b found t) f (subst (λ (a : ℤ). IsWay tree v a y found t) e h)

-- what is left of a view's pixels in the frame of one in it, less what is in front of that one
pub child_reached : (tree : Tree) (u c : ℕ) (w : View) (window : Point) (area frame part : Rect)
    (reached : Reached) (way : Way) (old new : List Rect) → IsIn tree u c w → w.frame ≡ frame
    → SFits w16 frame.left → SFits w16 frame.top → u < c
    → way.right ≡ reached.way.right +ℤ frame.left → way.down ≡ reached.way.down +ℤ frame.top
    → IsReached tree u window area reached old → IsPartOf part reached.area frame reached.way
    → length new ≤ length old + lying u (drop (c + 1) tree)
    → lying u (drop (c + 1) tree) ≤ lying u tree
    → ((x y : ℤ) → rect_has part x y ≡ true
    → region_has new x y ≡ (region_has old x y
    || covers (drop (c + 1) tree) u (x -ℤ reached.way.right) (y -ℤ reached.way.down)))
    → IsReached tree c window area record { area = part; way = way } new
child_reached tree u c w window area frame part reached way old new h is f g less across down reach
    of few fewer pixels =
    let had = reach.few in
    let two = lying_two u tree in
    let more = lying_more (suc u) c tree (omega arith) in
    record {
      some = of.some;
      within = λ x y e. reach.within x y (and_parts (rect_has reached.area x y)
          (has_moved frame reached.way x y) (sym (of.both x y) ∙ e)).0;
      way = λ x y has.
          let a = x -ℤ reached.way.right in
          let b = y -ℤ reached.way.down in
          let both : rect_has part x y ≡ (rect_has reached.area x y && rect_has w.frame a b) =
          of.both x y ∙ ap (λ f. rect_has reached.area x y && rect_has f a b) (sym is) in
          let l : a -ℤ w.frame.left ≡ x -ℤ way.right = ap (λ (f : Rect). a -ℤ f.left) is
          ∙ further x reached.way.right frame.left ∙ ap (λ z. x -ℤ z) (sym across) in
          let t : b -ℤ w.frame.top ≡ y -ℤ way.down = ap (λ (f : Rect). b -ℤ f.top) is
          ∙ further y reached.way.down frame.top ∙ ap (λ z. y -ℤ z) (sym down) in
          way_at tree c (a -ℤ w.frame.left) (b -ℤ w.frame.top) (x -ℤ way.right) (y -ℤ way.down)
          (view_at tree (x -ℤ window.x) (y -ℤ window.y))
          (rect_has part x y && not (region_has new x y)) l t
          (child_way tree u c w a b (view_at tree (x -ℤ window.x) (y -ℤ window.y))
          (rect_has reached.area x y && not (region_has old x y))
          (rect_has part x y && not (region_has new x y)) h (reach.way x y has)
          (child_test (rect_has part x y) (rect_has reached.area x y) (rect_has w.frame a b)
          (region_has new x y) (region_has old x y) (covers (drop (c + 1) tree) u a b) both
          (pixels x y)));
      across = rw across (near_more (suc u) (suc c) reached.way.right frame.left (omega arith) f
          reach.across);
      down = rw down (near_more (suc u) (suc c) reached.way.down frame.top (omega arith) g
          reach.down);
      few = omega (arith, had, two, more, few, fewer);
    }

-- ---- the view

pub none_shown : (tree : Tree) (v : ℕ) (window : Point) (area : Rect)
    → ((x y : ℤ) → rect_has area x y ≡ true
    → IsOutside tree v (view_at tree (x -ℤ window.x) (y -ℤ window.y))) → (x y : ℤ)
    → (rect_has area x y && shows tree v window x y) ≡ false
none_shown tree v window area out x y =
    guarded (rect_has area x y) (shows tree v window x y)
    (λ e. not_own tree v (view_at tree (x -ℤ window.x) (y -ℤ window.y)) (out x y e))
  where
    guarded : (a s : Bool) → (a ≡ true → s ≡ false) → (a && s) ≡ false
    guarded true s h = h refl
    guarded false s h = refl

shown_test : (a p n o c s : Bool) → (p ≡ true → a ≡ true) → (p ≡ true → n ≡ (o || c))
    → (a ≡ true → ((p && not o) && not c) ≡ s) → (p && not n) ≡ (a && s)
shown_test true true n o c s f g h = ap not (g refl) ∙ both_not o c ∙ h refl
shown_test true false n o c s f g h = h refl
shown_test false true n o c s f g h = absurd (false≢true (f refl))
shown_test false false n o c s f g h = refl

pub view_shown : (tree : Tree) (v : ℕ) (window : Point) (area : Rect) (reached : Reached)
    (old new : List Rect) → IsTree tree → v < length tree → IsReached tree v window area reached old
    → ((x y : ℤ) → rect_has reached.area x y ≡ true
    → region_has new x y ≡ (region_has old x y
    || covers (drop 0 tree) v (x -ℤ reached.way.right) (y -ℤ reached.way.down)))
    → IsShown tree v window area reached.area new
view_shown tree v window area reached old new whole less reach pixels = record {
  some = reach.some;
  pixels = λ x y.
      let a = x -ℤ reached.way.right in
      let b = y -ℤ reached.way.down in
      shown_test (rect_has area x y) (rect_has reached.area x y) (region_has new x y)
      (region_has old x y) (covers tree v a b) (shows tree v window x y) (reach.within x y)
      (pixels x y)
      (λ e. own_way tree v a b (view_at tree (x -ℤ window.x) (y -ℤ window.y))
      (rect_has reached.area x y && not (region_has old x y)) whole.parents less
      (reach.way x y e));
}
