-- Where on the screen a view shows, from the root down.
use Rattle.std.proofs.Common.{◌≡◌, ℕ, ◌+◌, ◌-◌, ◌<◌, suc, ℤ, ◌-ℤ◌, Bool, true, false, not}
use Rattle.std.proofs.Common.{◌&&◌, Option, Some, length, drop, arith, refl, sym, ap, ◌∙◌}
use Rattle.std.proofs.lemmas.Bool.{and_parts, false≢true, false_from_ne_true}
use Rattle.std.proofs.lemmas.Bool.{not-true}
use Rattle.be_geom.specs.Numbers.{is_number}
use Rattle.be_geom.specs.Rects.{rect_has}
use Rattle.be_views.specs.Clips.{covers, ComesBy}
use Rattle.be_views.specs.Pixels.{view_below}
use Rattle.be_views.specs.Trees.{View, Tree, lies_within}
use Rattle.be_views.specs.Whole.{AreParentsFirst}
use Rattle.be_views.proofs.ClipLemmas.{IsIn, in_parent, not_own, own, by_front, is_lying}
use Rattle.be_views.proofs.FrontLemmas.{in_front}
use Rattle.be_views.proofs.KinLemmas.{within_child}
use Rattle.be_views.proofs.KinLemmas.{goes_on}
use Rattle.be_descent.specs.Fronts.{IsWay}

-- ---- from a view to one in it

-- the way that comes by a view comes by the child that is in front
by_child : (tree : Tree) (u c : ℕ) (w : View) (x y : ℤ) (found : Option ℕ) → IsIn tree u c w
    → rect_has w.frame x y ≡ true → covers (drop (c + 1) tree) u x y ≡ false
    → ComesBy tree u x y found → ComesBy tree c (x -ℤ w.frame.left) (y -ℤ w.frame.top) found
by_child tree u c w x y found h holds free by =
    let steps = by.0 in
    let many = by.1.0 in
    let there = h.there in
    let below = h.first.below c u (in_parent tree u c w h) in
    let front = in_front tree u c x y w h.got (is_lying tree u c w h) holds free in
    let n : steps ≡ suc (steps - 1) = omega arith in (
      steps - 1,
      (
        omega arith,
        by.1.1 ∙ ap (λ k. Some (view_below k tree u x y)) n
            ∙ ap (λ v. Some v) (goes_on (steps - 1) tree u x y (c, w) front),
      ),
    )

in_or_out : (tree : Tree) (u c : ℕ) (w : View) (k r : ℕ) (x y : ℤ) (found : Option ℕ) (b : Bool)
    → IsIn tree u c w → IsWay tree u x y found b → found ≡ Some r → lies_within k tree c r ≡ true
    → (b && (rect_has w.frame x y && not (covers (drop (c + 1) tree) u x y))) ≡ false → ⊥
in_or_out tree u c w k r x y found true h way is lies out =
    false≢true (sym out ∙ by_front tree u c w k r x y found h (way.inside refl) is lies)
in_or_out tree u c w k r x y found false h way is lies out =
    false≢true (sym (way.outside refl r is (suc k))
    ∙ within_child k tree u c r (in_parent tree u c w h) lies)

-- the pixels from which the way comes by a view, cut by a frame in it and less what is in front,
-- are those from which it comes by the view of the frame
pub child_way : (tree : Tree) (u c : ℕ) (w : View) (x y : ℤ) (found : Option ℕ) (b t : Bool)
    → IsIn tree u c w → IsWay tree u x y found b
    → t ≡ (b && (rect_has w.frame x y && not (covers (drop (c + 1) tree) u x y)))
    → IsWay tree c (x -ℤ w.frame.left) (y -ℤ w.frame.top) found t
child_way tree u c w x y found b t h way is = record {
  inside = λ e.
      let parts = and_parts b (rect_has w.frame x y && not (covers (drop (c + 1) tree) u x y))
      (sym is ∙ e) in
      let tests = and_parts (rect_has w.frame x y) (not (covers (drop (c + 1) tree) u x y)) parts.1
      in
      by_child tree u c w x y found h tests.0 (not-true (covers (drop (c + 1) tree) u x y) tests.1)
      (way.inside parts.0);
  outside = λ e r found_is k. false_from_ne_true (lies_within k tree c r)
      (λ lies. in_or_out tree u c w k r x y found b h way found_is lies (sym is ∙ e));
}

-- ---- a view without what is in it

pub own_way : (tree : Tree) (v : ℕ) (x y : ℤ) (found : Option ℕ) (b : Bool) → AreParentsFirst tree
    → v < length tree → IsWay tree v x y found b
    → (b && not (covers tree v x y)) ≡ is_number v found
own_way tree v x y found true first there way = own tree v x y found first there (way.inside refl)
own_way tree v x y found false first there way = sym (not_own tree v found (way.outside refl))
