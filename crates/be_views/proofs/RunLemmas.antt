-- How far the answer stays the same along a row.
use Rattle.std.specs.Prelude.{is_some, slice_get, option_map, option_and_then}
use Rattle.std.specs.Int.{int_min}
use Rattle.std.proofs.Common.{◌≡◌, ℕ, ◌+◌, ◌-◌, ◌<◌, zero, suc, ℤ, pos, ◌+ℤ◌, ◌-ℤ◌, ◌≤ℤ◌, ◌<ℤ◌, true, false, ◌&&◌, ◌||◌, cond, ◌⊎◌, inl, inr, List, [], ◌∷◌, Option, Some, None, length, get_or, take, drop, SFits, w16, w32, rules, arith, refl, sym, ap, subst, ◌∙◌}
use Rattle.std.proofs.lemmas.Bool.{and_right, or_parts, or_from, false≢true, false_from_ne_true, true_from_ne_false, and_from, eq-eqb}
use Rattle.std.proofs.lemmas.Int.{ints, clamps}
use Rattle.std.proofs.lemmas.Option.{none-some, same_Some, slice_get_read}
use Rattle.std.proofs.lemmas.List.{take_rest}
use Rattle.std.proofs.lemmas.List.Folds.{list_any_more, list_any_at}
use Rattle.be_facts.proofs.Truths.{or_false_second, or_false_first, or_false, or_same}
use Rattle.be_geom.specs.declared.rect.Rect.{Rect}
use Rattle.be_geom.specs.Numbers.{is_number}
use Rattle.be_geom.specs.Points.{between}
use Rattle.be_geom.specs.Rects.{rect_has}
use Rattle.be_geom.proofs.Between.{between_tells, is_below, is_above, is_between}
use Rattle.be_region.specs.Runs.{IsRun}
use Rattle.be_views.specs.Clips.{covers}
use Rattle.be_views.specs.Runs.{IsRunTo}
use Rattle.be_views.specs.Trees.{View, Tree, lies_within}
use Rattle.be_views.specs.Pixels.{last_child_at, view_below, view_at}
use Rattle.be_views.specs.Whole.{AreParentsFirst, IsTree}
use Rattle.be_views.proofs.ChildLemmas.{framed, in_frame}
use Rattle.be_views.proofs.FrontLemmas.{child_is, covers_is, none_of, in_front, none_in_front}
use Rattle.be_views.proofs.KinLemmas.{ends_within, within_below, one_child, parent_read, goes_on, stops}

-- ---- up to a frame

min_cases : (last a b : ℤ) → last ≡ int_min a b → (last ≡ a) ⊎ ((last <ℤ a) × (last ≡ b))
min_cases last a b h = grind (arith, ints, clamps)

pub left_of : (f : Rect) (z y : ℤ) → z <ℤ f.left → rect_has f z y ≡ false
left_of f z y h = ap (λ b. b && between f.top y f.bottom) (is_below f.left z f.right h)

right_of : (f : Rect) (z y : ℤ) → f.right <ℤ z → rect_has f z y ≡ false
right_of f z y h = ap (λ b. b && between f.top y f.bottom) (is_above f.left z f.right h)

begins : (f : Rect) (z y : ℤ) → z ≡ f.left → f.left ≤ℤ f.right → between f.top y f.bottom ≡ true → rect_has f z y ≡ true
begins f z y at h row = ap (λ b. b && between f.top y f.bottom) (is_between f.left z f.right (omega (arith, ints)) (omega (arith, ints))) ∙ row

pub gap_before : (f : Rect) (x y end last : ℤ) → x <ℤ f.left → f.left ≤ℤ f.right → between f.top y f.bottom ≡ true → x ≤ℤ end → last ≡ int_min end (f.left -ℤ pos 1) → IsRunTo (λ z. rect_has f z y) x end last
gap_before f x y end last before across row h is = record {
  forward = omega (arith, ints, clamps);
  within = omega (arith, ints, clamps);
  same = λ z a b. left_of f z y (omega (arith, ints, clamps)) ∙ sym (left_of f x y before);
  other = elim (min_cases last end (f.left -ℤ pos 1) is) [ inl e ↦ inl e | inr e ↦ let next = e.1 in inr (e.0, λ k. false≢true (sym (left_of f x y before) ∙ sym k ∙ begins f (last +ℤ pos 1) y (omega (arith, ints)) across row)) ];
}

still_none : (f : Rect) (x y z : ℤ) → (f.left ≤ℤ x) ⊎ ((f.right <ℤ f.left) ⊎ (between f.top y f.bottom ≡ false)) → rect_has f x y ≡ false → x ≤ℤ z → rect_has f z y ≡ false
still_none f x y z (inl in_or_behind) none h = grind (arith, ints, between_tells)
still_none f x y z (inr (inl empty)) none h = grind (arith, ints, between_tells)
still_none f x y z (inr (inr row)) none h = and_right (between f.left z f.right) (between f.top y f.bottom) row

-- no pixel of the row is ahead
pub none_ahead : (f : Rect) (x y end : ℤ) → (f.left ≤ℤ x) ⊎ ((f.right <ℤ f.left) ⊎ (between f.top y f.bottom ≡ false)) → rect_has f x y ≡ false → x ≤ℤ end → IsRunTo (λ z. rect_has f z y) x end end
none_ahead f x y end why none h = record {
  forward = h;
  within = omega (arith, ints);
  same = λ z a b. still_none f x y z why none a ∙ sym none;
  other = inl refl;
}

-- ---- up to the next of some views

pub covers_more : (views : List View) (i v : ℕ) (x y : ℤ) (d : View) → i < length views → covers (take (i + 1) views) v x y ≡ (covers (take i views) v x y || (is_number v (get_or views i d).parent && rect_has (get_or views i d).frame x y))
covers_more views i v x y d h = list_any_more (λ view. is_number v view.parent && rect_has view.frame x y) views i d h

-- none of the first of these views holds the pixel where none of all holds it
pub front_free : (views : List View) (i v : ℕ) (x y : ℤ) → covers views v x y ≡ false → covers (take i views) v x y ≡ false
front_free views zero v x y h = refl
front_free [] (suc i) v x y h = refl
front_free (w ∷ views) (suc i) v x y h =
    let parts = or_parts (is_number v w.parent && rect_has w.frame x y) (covers views v x y) h in
    or_from (is_number v w.parent && rect_has w.frame x y) (covers (take i views) v x y) parts.0 (front_free views i v x y parts.1)

-- one that lies elsewhere
pub run_passes : (views : List View) (i v : ℕ) (x y end last : ℤ) (view d : View) → i < length views → view ≡ get_or views i d → is_number v view.parent ≡ false → IsRunTo (λ z. covers (take i views) v z y) x end last → IsRunTo (λ z. covers (take (i + 1) views) v z y) x end last
run_passes views i v x y end last view d h read out r =
    let same : (z : ℤ) → covers (take (i + 1) views) v z y ≡ covers (take i views) v z y = λ z. covers_more views i v z y d h ∙ ap (λ (w : View). covers (take i views) v z y || (is_number v w.parent && rect_has w.frame z y)) (sym read) ∙ ap (λ b. covers (take i views) v z y || (b && rect_has view.frame z y)) out ∙ or_false (covers (take i views) v z y) in
    record {
      forward = r.forward;
      within = r.within;
      same = λ z a b. same z ∙ r.same z a b ∙ sym (same x);
      other = elim r.other [ inl e ↦ inl e | inr e ↦ inr (e.0, λ k. e.1 (sym (same (last +ℤ pos 1)) ∙ k ∙ same x)) ];
    }

-- one that lies in the view, and up to which a run within this one goes
pub run_narrows : (views : List View) (i v : ℕ) (x y end last until : ℤ) (view d : View) → i < length views → view ≡ get_or views i d → is_number v view.parent ≡ true → covers views v x y ≡ false → rect_has view.frame x y ≡ false → IsRunTo (λ z. covers (take i views) v z y) x end last → IsRunTo (λ z. rect_has view.frame z y) x last until → IsRunTo (λ z. covers (take (i + 1) views) v z y) x end until
run_narrows views i v x y end last until view d h read lies free none r s =
    let same : (z : ℤ) → covers (take (i + 1) views) v z y ≡ (covers (take i views) v z y || rect_has view.frame z y) = λ z. covers_more views i v z y d h ∙ ap (λ (w : View). covers (take i views) v z y || (is_number v w.parent && rect_has w.frame z y)) (sym read) ∙ ap (λ b. covers (take i views) v z y || (b && rect_has view.frame z y)) lies in
    let front : covers (take i views) v x y ≡ false = front_free views i v x y free in
    let here : (covers (take i views) v x y || rect_has view.frame x y) ≡ false = or_from (covers (take i views) v x y) (rect_has view.frame x y) front none in
    let inner = s.within in
    let outer = r.within in
    record {
      forward = s.forward;
      within = omega (arith, ints);
      same = λ z a b. same z ∙ or_same (covers (take i views) v z y) (rect_has view.frame z y) (covers (take i views) v x y) (rect_has view.frame x y) (r.same z a (omega (arith, ints))) (s.same z a b) ∙ sym (same x);
      other = elim s.other [ inl e ↦ elim r.other [ inl f ↦ inl (e ∙ f) | inr f ↦ let less = f.0 in inr (omega (arith, ints), λ k. f.1 (ap (λ z. covers (take i views) v (z +ℤ pos 1) y) (sym e) ∙ or_false_first (covers (take i views) v (until +ℤ pos 1) y) (rect_has view.frame (until +ℤ pos 1) y) (sym (same (until +ℤ pos 1)) ∙ k ∙ same x ∙ here) ∙ sym front)) ] | inr e ↦ let less = e.0 in inr (omega (arith, ints), λ k. e.1 (or_false_second (covers (take i views) v (until +ℤ pos 1) y) (rect_has view.frame (until +ℤ pos 1) y) (sym (same (until +ℤ pos 1)) ∙ k ∙ same x ∙ here) ∙ sym none)) ];
    }

pub free_frame : (views : List View) (i v : ℕ) (x y : ℤ) (view d : View) → i < length views → view ≡ get_or views i d → is_number v view.parent ≡ true → covers views v x y ≡ false → rect_has view.frame x y ≡ false
free_frame views i v x y view d h read lies free =
    false_from_ne_true (rect_has view.frame x y) (λ e. false≢true (sym free ∙ list_any_at (λ (w : View). is_number v w.parent && rect_has w.frame x y) views i d h (ap (λ (w : View). is_number v w.parent && rect_has w.frame x y) (sym read) ∙ and_from (is_number v view.parent) (rect_has view.frame x y) lies e)))

-- ---- up to another child in front

pub no_child : (tree : Tree) (v : ℕ) (x y : ℤ) → covers tree v x y ≡ false → last_child_at tree v x y ≡ None
no_child tree v x y h = none_of (last_child_at tree v x y) (sym (covers_is tree v x y) ∙ h)

pub no_cover : (tree : Tree) (v : ℕ) (x y : ℤ) → last_child_at tree v x y ≡ None → covers tree v x y ≡ false
no_cover tree v x y h = covers_is tree v x y ∙ ap is_some h

-- where none is in front
pub child_none_run : (tree : Tree) (v : ℕ) (x y end last : ℤ) → last_child_at tree v x y ≡ None → IsRunTo (λ z. covers tree v z y) x end last → IsRunTo (λ z. last_child_at tree v z y) x end last
child_none_run tree v x y end last none r = record {
  forward = r.forward;
  within = r.within;
  same = λ z a b. no_child tree v z y (r.same z a b ∙ no_cover tree v x y none) ∙ sym none;
  other = elim r.other [ inl e ↦ inl e | inr e ↦ inr (e.0, λ k. e.1 (no_cover tree v (last +ℤ pos 1) y (k ∙ none) ∙ sym (no_cover tree v x y none))) ];
}

in_row : (f : Rect) (x z y : ℤ) → rect_has f x y ≡ true → x ≤ℤ z → z ≤ℤ f.right → rect_has f z y ≡ true
in_row f x z y h a b = grind (arith, ints, between_tells)

pub within_right : (f : Rect) (x y : ℤ) → rect_has f x y ≡ true → x ≤ℤ f.right
within_right f x y h = grind (arith, ints, between_tells)

pub room_right : (f : Rect) (x y end : ℤ) → rect_has f x y ≡ true → x ≤ℤ end → x ≤ℤ int_min end f.right
room_right f x y end h k = let right = within_right f x y h in omega (arith, ints, clamps)

pub right_most : (end most last right : ℤ) → last ≤ℤ most → most ≡ int_min end right → last ≤ℤ right
right_most end most last right h e = omega (arith, ints, clamps)

-- where one is in front
pub child_some_run : (tree : Tree) (v : ℕ) (x y end last : ℤ) (c : ℕ × View) → last_child_at tree v x y ≡ Some c → IsRunTo (λ z. covers (drop (c.0 + 1) tree) v z y) x (int_min end c.1.frame.right) last → IsRunTo (λ z. last_child_at tree v z y) x end last
child_some_run tree v x y end last c is r =
    let h = child_is tree v x y c is in
    let free = none_in_front tree v x y c is in
    let narrow = r.within in
    let lies : is_number v c.1.parent ≡ true = ap (is_number v) h.lies ∙ eq-eqb v v refl in
    record {
      forward = r.forward;
      within = omega (arith, ints, clamps);
      same = λ z a b. in_front tree v c.0 z y c.1 h.got lies (in_row c.1.frame x z y h.holds a (omega (arith, ints, clamps))) (r.same z a b ∙ free) ∙ sym is;
      other = elim r.other [ inl e ↦ elim (min_cases last end c.1.frame.right e) [ inl f ↦ inl f | inr f ↦ inr (f.0, λ k. let next = f.1 in false≢true (sym (right_of c.1.frame (last +ℤ pos 1) y (omega (arith, ints))) ∙ (child_is tree v (last +ℤ pos 1) y c (k ∙ is)).holds)) ] | inr e ↦ let less = e.0 in inr (omega (arith, ints, clamps), λ k. e.1 (none_in_front tree v (last +ℤ pos 1) y c (k ∙ is) ∙ sym free)) ];
    }

-- ---- up to another view

-- the way doesn't end in the view where there is a child
other_child : (n : ℕ) (tree : Tree) (v : ℕ) (x y : ℤ) → AreParentsFirst tree → (o : Option (ℕ × View)) → last_child_at tree v x y ≡ o → (last_child_at tree v x y ≡ None → ⊥) → view_below (suc n) tree v x y ≡ v → ⊥
other_child n tree v x y first None is not ends = not is
other_child n tree v x y first (Some c) is not ends =
    let h = child_is tree v x y c is in
    let below = first.below c.0 v (parent_read tree v x y c h) in
    let low = within_below n tree c.0 (view_below n tree c.0 (x -ℤ c.1.frame.left) (y -ℤ c.1.frame.top)) first (ends_within n tree c.0 (x -ℤ c.1.frame.left) (y -ℤ c.1.frame.top)) in
    let e : view_below n tree c.0 (x -ℤ c.1.frame.left) (y -ℤ c.1.frame.top) ≡ v = sym (goes_on n tree v x y c is) ∙ ends in
    omega arith

-- where the way ends in the view
pub stop_run : (n : ℕ) (tree : Tree) (v : ℕ) (x y end last : ℤ) → AreParentsFirst tree → last_child_at tree v x y ≡ None → IsRunTo (λ z. last_child_at tree v z y) x end last → IsRunTo (λ z. view_below (suc n) tree v z y) x end last
stop_run n tree v x y end last first none r = record {
  forward = r.forward;
  within = r.within;
  same = λ z a b. stops (suc n) tree v z y (r.same z a b ∙ none) ∙ sym (stops (suc n) tree v x y none);
  other = elim r.other [ inl e ↦ inl e | inr e ↦ inr (e.0, λ k. other_child n tree v (last +ℤ pos 1) y first (last_child_at tree v (last +ℤ pos 1) y) refl (λ f. e.1 (f ∙ sym none)) (k ∙ stops (suc n) tree v x y none)) ];
}

-- the same child is in front at two pixels of a row from which the way ends in one view
same_child : (n : ℕ) (tree : Tree) (v : ℕ) (x z y : ℤ) (c : ℕ × View) → AreParentsFirst tree → last_child_at tree v x y ≡ Some c → (o : Option (ℕ × View)) → last_child_at tree v z y ≡ o → view_below (suc n) tree v z y ≡ view_below (suc n) tree v x y → last_child_at tree v z y ≡ Some c
same_child n tree v x z y c first is None other ends =
    let h = child_is tree v x y c is in
    let below = first.below c.0 v (parent_read tree v x y c h) in
    let low = within_below n tree c.0 (view_below n tree c.0 (x -ℤ c.1.frame.left) (y -ℤ c.1.frame.top)) first (ends_within n tree c.0 (x -ℤ c.1.frame.left) (y -ℤ c.1.frame.top)) in
    let e : v ≡ view_below n tree c.0 (x -ℤ c.1.frame.left) (y -ℤ c.1.frame.top) = sym (stops (suc n) tree v z y other) ∙ ends ∙ goes_on n tree v x y c is in
    absurd (omega arith)
same_child n tree v x z y c first is (Some d) other ends =
    let h = child_is tree v x y c is in
    let k = child_is tree v z y d other in
    let in_c = ends_within n tree c.0 (x -ℤ c.1.frame.left) (y -ℤ c.1.frame.top) in
    let in_d = ends_within n tree d.0 (z -ℤ d.1.frame.left) (y -ℤ d.1.frame.top) in
    let e : view_below n tree d.0 (z -ℤ d.1.frame.left) (y -ℤ d.1.frame.top) ≡ view_below n tree c.0 (x -ℤ c.1.frame.left) (y -ℤ c.1.frame.top) = sym (goes_on n tree v z y d other) ∙ ends ∙ goes_on n tree v x y c is in
    let number : d.0 ≡ c.0 = one_child n tree n v d.0 c.0 _ first (parent_read tree v z y d k) (parent_read tree v x y c h) in_d (ap (lies_within n tree c.0) e ∙ in_c) in
    let view : d.1 ≡ c.1 = same_Some d.1 c.1 (sym k.got ∙ ap (slice_get tree) number ∙ h.got) in
    other ∙ ap (λ m. Some (m, d.1)) number ∙ ap (λ w. Some (c.0, w)) view

-- where the way goes on in a child
pub deep_run : (n : ℕ) (tree : Tree) (v : ℕ) (x y end last run : ℤ) (c : ℕ × View) → AreParentsFirst tree → last_child_at tree v x y ≡ Some c → IsRunTo (λ z. last_child_at tree v z y) x end last → IsRunTo (λ z. view_below n tree c.0 z (y -ℤ c.1.frame.top)) (x -ℤ c.1.frame.left) (last -ℤ c.1.frame.left) run → IsRunTo (λ z. view_below (suc n) tree v z y) x end (run +ℤ c.1.frame.left)
deep_run n tree v x y end last run c first is r s =
    let left = c.1.frame.left in
    let below : ℤ → ℕ = λ z. view_below n tree c.0 z (y -ℤ c.1.frame.top) in
    let on : (z : ℤ) → x ≤ℤ z → z ≤ℤ last → view_below (suc n) tree v z y ≡ below (z -ℤ left) = λ z a b. goes_on n tree v z y c (r.same z a b ∙ is) in
    let forward = r.forward in
    let within = r.within in
    let inner = s.forward in
    let most = s.within in
    record {
      forward = omega (arith, ints);
      within = omega (arith, ints);
      same = λ z a b. on z a (omega (arith, ints)) ∙ s.same (z -ℤ left) (omega (arith, ints)) (omega (arith, ints)) ∙ sym (on x (omega (arith, ints)) (omega (arith, ints)));
      other = elim s.other [ inl e ↦ let at : run +ℤ left ≡ last = omega (arith, ints) in elim r.other [ inl f ↦ inl (at ∙ f) | inr f ↦ let less = f.0 in inr (omega (arith, ints), λ k. f.1 (same_child n tree v x (last +ℤ pos 1) y c first is (last_child_at tree v (last +ℤ pos 1) y) refl (ap (λ z. view_below (suc n) tree v (z +ℤ pos 1) y) (sym at) ∙ k) ∙ sym is)) ] | inr e ↦ let less = e.0 in let next : run +ℤ left +ℤ pos 1 -ℤ left ≡ run +ℤ pos 1 = omega (arith, ints) in inr (omega (arith, ints), λ k. e.1 (ap below (sym next) ∙ sym (on (run +ℤ left +ℤ pos 1) (omega (arith, ints)) (omega (arith, ints))) ∙ k ∙ on x (omega (arith, ints)) (omega (arith, ints)))) ];
    }

-- ---- the child in front, as the calls give it

-- the view of which a number and a frame are known
pub front_of : (o : Option (ℕ × View)) (child : ℕ × Rect) → Some child ≡ option_map framed o → (c : ℕ × View) × ((o ≡ Some c) × ((c.0 ≡ child.0) × (c.1.frame ≡ child.1)))
front_of None child h = absurd (none-some child (sym h))
front_of (Some c) child h =
    let e = same_Some child (framed c) h in
    (c, (refl, (ap (λ (b : ℕ × Rect). b.0) (sym e), ap (λ (b : ℕ × Rect). b.1) (sym e))))

pub free_behind : (tree : Tree) (v : ℕ) (x y : ℤ) (child : ℕ × Rect) → Some child ≡ option_map framed (last_child_at tree v x y) → covers (take (length tree - (child.0 + 1)) (drop (child.0 + 1) tree)) v x y ≡ false
free_behind tree v x y child h =
    let f = front_of (last_child_at tree v x y) child h in
    ap (λ l. covers l v x y) (take_rest tree (child.0 + 1)) ∙ ap (λ k. covers (drop (k + 1) tree) v x y) (sym f.1.1.0) ∙ none_in_front tree v x y f.0 f.1.0

pub none_framed : (o : Option (ℕ × View)) → None ≡ option_map framed o → o ≡ None
none_framed None h = refl
none_framed (Some c) h = absurd (none-some (framed c) h)

pub free_alone : (tree : Tree) (v : ℕ) (x y : ℤ) → None ≡ option_map framed (last_child_at tree v x y) → covers tree v x y ≡ false
free_alone tree v x y h = no_cover tree v x y (none_framed (last_child_at tree v x y) h)

pub alone_run : (tree : Tree) (v : ℕ) (x y end last : ℤ) → None ≡ option_map framed (last_child_at tree v x y) → IsRunTo (λ z. covers tree v z y) x end last → IsRunTo (λ z. last_child_at tree v z y) x end last
alone_run tree v x y end last h r = child_none_run tree v x y end last (none_framed (last_child_at tree v x y) h) r

pub front_run : (tree : Tree) (v : ℕ) (x y end most last : ℤ) (child : ℕ × Rect) → Some child ≡ option_map framed (last_child_at tree v x y) → most ≡ int_min end child.1.right → IsRunTo (λ z. covers (take (length tree - (child.0 + 1)) (drop (child.0 + 1) tree)) v z y) x most last → IsRunTo (λ z. last_child_at tree v z y) x end last
front_run tree v x y end most last child h least r =
    let f = front_of (last_child_at tree v x y) child h in
    let c = f.0 in
    let later : take (length tree - (child.0 + 1)) (drop (child.0 + 1) tree) ≡ drop (c.0 + 1) tree = take_rest tree (child.0 + 1) ∙ ap (λ k. drop (k + 1) tree) (sym f.1.1.0) in
    let most_is : most ≡ int_min end c.1.frame.right = least ∙ ap (λ (g : Rect). int_min end g.right) (sym f.1.1.1) in
    child_some_run tree v x y end last c f.1.0 (subst (λ (m : ℤ). IsRunTo (λ z. covers (drop (c.0 + 1) tree) v z y) x m last) most_is (subst (λ (l : List View). IsRunTo (λ z. covers l v z y) x most last) later r))

-- the same run, where the child is known by its number and its frame
inner_at : (n : ℕ) (tree : Tree) (v : ℕ) (x y x' y' end last run : ℤ) (child : ℕ × Rect) (c : ℕ × View) → AreParentsFirst tree → last_child_at tree v x y ≡ Some c → c.0 ≡ child.0 → c.1.frame ≡ child.1 → x' ≡ (x -ℤ child.1.left) → y' ≡ (y -ℤ child.1.top) → IsRunTo (λ z. last_child_at tree v z y) x end last → IsRunTo (λ z. view_below n tree child.0 z y') x' (last -ℤ child.1.left) run → IsRunTo (λ z. view_below (suc n) tree v z y) x end (run +ℤ child.1.left)
inner_at n tree v x y x' y' end last run child c first is number frame across down r s =
    let on_left : child.1.left ≡ c.1.frame.left = ap (λ (f : Rect). f.left) (sym frame) in
    let on_top : child.1.top ≡ c.1.frame.top = ap (λ (f : Rect). f.top) (sym frame) in
    let at : IsRunTo (λ z. view_below n tree c.0 z (y -ℤ c.1.frame.top)) (x -ℤ c.1.frame.left) (last -ℤ c.1.frame.left) run = rw (← on_left, ← on_top, number, ← across, ← down) s in
    rw on_left (deep_run n tree v x y end last run c first is r at)

pub inner_run : (n : ℕ) (tree : Tree) (v : ℕ) (x y x' y' end last run : ℤ) (child : ℕ × Rect) → AreParentsFirst tree → Some child ≡ option_map framed (last_child_at tree v x y) → x' ≡ (x -ℤ child.1.left) → y' ≡ (y -ℤ child.1.top) → IsRunTo (λ z. last_child_at tree v z y) x end last → IsRunTo (λ z. view_below n tree child.0 z y') x' (last -ℤ child.1.left) run → IsRunTo (λ z. view_below (suc n) tree v z y) x end (run +ℤ child.1.left)
inner_run n tree v x y x' y' end last run child first h across down r s =
    let f = front_of (last_child_at tree v x y) child h in
    inner_at n tree v x y x' y' end last run child f.0 first f.1.0 f.1.1.0 f.1.1.1 across down r s

pub inner_view : (n : ℕ) (tree : Tree) (v : ℕ) (x y x' y' : ℤ) (child : ℕ × Rect) → Some child ≡ option_map framed (last_child_at tree v x y) → x' ≡ (x -ℤ child.1.left) → y' ≡ (y -ℤ child.1.top) → view_below n tree child.0 x' y' ≡ view_below (suc n) tree v x y
inner_view n tree v x y x' y' child h across down =
    let f = front_of (last_child_at tree v x y) child h in
    let c = f.0 in
    rw (across, down) (ap (λ k. view_below n tree k (x -ℤ child.1.left) (y -ℤ child.1.top)) (sym f.1.1.0) ∙ ap (λ (g : Rect). view_below n tree c.0 (x -ℤ g.left) (y -ℤ g.top)) (sym f.1.1.1) ∙ sym (goes_on n tree v x y c f.1.0))

pub end_run : (n : ℕ) (tree : Tree) (v : ℕ) (x y end last : ℤ) → AreParentsFirst tree → None ≡ option_map framed (last_child_at tree v x y) → IsRunTo (λ z. last_child_at tree v z y) x end last → IsRunTo (λ z. view_below (suc n) tree v z y) x end last
end_run n tree v x y end last first h r = stop_run n tree v x y end last first (none_framed (last_child_at tree v x y) h) r

-- ---- columns that fit

pub fits_less : (f : Rect) (x y last : ℤ) → SFits w16 f.left → SFits w16 f.right → rect_has f x y ≡ true → x ≤ℤ last → last ≤ℤ f.right → SFits w32 (last -ℤ f.left)
fits_less f x y last a b h k m =
    let p = in_frame f x y h in
    let left = p.0 in
    search rules

pub fits_more : (left x last run : ℤ) → SFits w32 x → SFits w32 last → (x -ℤ left) ≤ℤ run → run ≤ℤ (last -ℤ left) → SFits w32 (run +ℤ left)
fits_more left x last run a b h k = search rules

-- the last steps of a way
pub inner_steps : (steps : ℕ) (tree : Tree) (v : ℕ) (x y x' y' end last run : ℤ) (child : ℕ × Rect) → 0 < steps → AreParentsFirst tree → Some child ≡ option_map framed (last_child_at tree v x y) → x' ≡ (x -ℤ child.1.left) → y' ≡ (y -ℤ child.1.top) → IsRunTo (λ z. last_child_at tree v z y) x end last → IsRunTo (λ z. view_below (steps - 1) tree child.0 z y') x' (last -ℤ child.1.left) run → IsRunTo (λ z. view_below steps tree v z y) x end (run +ℤ child.1.left)
inner_steps steps tree v x y x' y' end last run child some first h across down r s =
    let n : suc (steps - 1) ≡ steps = omega arith in
    subst (λ (m : ℕ). IsRunTo (λ z. view_below m tree v z y) x end (run +ℤ child.1.left)) n (inner_run (steps - 1) tree v x y x' y' end last run child first h across down r s)

pub view_steps : (steps : ℕ) (tree : Tree) (v : ℕ) (x y x' y' : ℤ) (child : ℕ × Rect) → 0 < steps → Some child ≡ option_map framed (last_child_at tree v x y) → x' ≡ (x -ℤ child.1.left) → y' ≡ (y -ℤ child.1.top) → view_below (steps - 1) tree child.0 x' y' ≡ view_below steps tree v x y
view_steps steps tree v x y x' y' child some h across down =
    let n : suc (steps - 1) ≡ steps = omega arith in
    inner_view (steps - 1) tree v x y x' y' child h across down ∙ ap (λ m. view_below m tree v x y) n

pub end_steps : (steps : ℕ) (tree : Tree) (v : ℕ) (x y end last : ℤ) → 0 < steps → AreParentsFirst tree → None ≡ option_map framed (last_child_at tree v x y) → IsRunTo (λ z. last_child_at tree v z y) x end last → IsRunTo (λ z. view_below steps tree v z y) x end last
end_steps steps tree v x y end last some first h r =
    let n : suc (steps - 1) ≡ steps = omega arith in
    subst (λ (m : ℕ). IsRunTo (λ z. view_below m tree v z y) x end last) n (end_run (steps - 1) tree v x y end last first h r)

-- ---- in the window

pub view_in : (tree : Tree) (root : View) (z y : ℤ) → slice_get tree 0 ≡ Some root → rect_has root.frame z y ≡ true → view_at tree z y ≡ Some (view_below (length tree) tree 0 z y)
unfolding view_at
view_in tree root z y got h =
    ap (λ o. option_and_then (λ (w : View). cond (rect_has w.frame z y) (Some (view_below (length tree) tree 0 z y)) None) o) got ∙ ap (λ b. cond b (Some (view_below (length tree) tree 0 z y)) None) h

pub view_out : (tree : Tree) (root : View) (z y : ℤ) → slice_get tree 0 ≡ Some root → rect_has root.frame z y ≡ false → view_at tree z y ≡ None
unfolding view_at
view_out tree root z y got h =
    ap (λ o. option_and_then (λ (w : View). cond (rect_has w.frame z y) (Some (view_below (length tree) tree 0 z y)) None) o) got ∙ ap (λ b. cond b (Some (view_below (length tree) tree 0 z y)) None) h

pub root_view_in : (tree : Tree) (root : View) (x y : ℤ) → slice_get tree 0 ≡ Some root → rect_has root.frame x y ≡ true → Some (view_below (length tree) tree 0 x y) ≡ view_at tree x y
root_view_in tree root x y got h = sym (view_in tree root x y got h)

pub root_view_out : (tree : Tree) (root : View) (x y : ℤ) → slice_get tree 0 ≡ Some root → rect_has root.frame x y ≡ false → None ≡ view_at tree x y
root_view_out tree root x y got h = sym (view_out tree root x y got h)

pub root_run : (tree : Tree) (root : View) (x y last : ℤ) → slice_get tree 0 ≡ Some root → rect_has root.frame x y ≡ true → IsRunTo (λ z. view_below (length tree) tree 0 z y) x root.frame.right last → IsRun (λ z. view_at tree z y) x last
root_run tree root x y last got h r =
    let within = r.within in
    let forward = r.forward in
    record {
      forward = forward;
      same = λ z a b. view_in tree root z y got (in_row root.frame x z y h a (omega (arith, ints))) ∙ ap (λ v. Some v) (r.same z a b) ∙ sym (view_in tree root x y got h);
      other = inr (elim r.other [ inl e ↦ (λ k. none-some (view_below (length tree) tree 0 x y) (sym (view_out tree root (last +ℤ pos 1) y got (right_of root.frame (last +ℤ pos 1) y (omega (arith, ints)))) ∙ k ∙ view_in tree root x y got h)) | inr e ↦ (let less = e.0 in λ k. e.1 (same_Some (view_below (length tree) tree 0 (last +ℤ pos 1) y) (view_below (length tree) tree 0 x y) (sym (view_in tree root (last +ℤ pos 1) y got (in_row root.frame x (last +ℤ pos 1) y h (omega (arith, ints)) (omega (arith, ints)))) ∙ k ∙ view_in tree root x y got h))) ]);
    }

pub outer_run : (tree : Tree) (root : View) (x y last : ℤ) → slice_get tree 0 ≡ Some root → rect_has root.frame x y ≡ false → IsRunTo (λ z. rect_has root.frame z y) x (pos 2147483647) last → IsRun (λ z. view_at tree z y) x last
outer_run tree root x y last got h r = record {
  forward = r.forward;
  same = λ z a b. view_out tree root z y got (r.same z a b ∙ h) ∙ sym (view_out tree root x y got h);
  other = elim r.other [ inl e ↦ inl e | inr e ↦ inr (λ k. none-some (view_below (length tree) tree 0 (last +ℤ pos 1) y) (sym (view_out tree root x y got h) ∙ sym k ∙ view_in tree root (last +ℤ pos 1) y got (true_from_ne_false (rect_has root.frame (last +ℤ pos 1) y) (λ f. e.1 (f ∙ sym h))))) ];
}

pub root_read : (tree same : Tree) (root now : View) → tree ≡ same → IsTree tree → now ≡ get_or tree 0 now → root ≡ now → slice_get same 0 ≡ Some root
root_read tree same root now e t read is =
    ap (λ l. slice_get l 0) (sym e) ∙ slice_get_read tree (length tree) 0 now refl t.some read ∙ ap (λ w. Some w) (sym is)
