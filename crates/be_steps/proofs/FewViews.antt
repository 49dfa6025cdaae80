-- An update lists at most 32 views, as many as a window has.
use Rattle.std.proofs.Common.{◌≡◌, ℕ, zero, suc, ◌+◌, ◌<◌, ◌≤◌, Bool, true, false, List, [], ◌∷◌, length, map, Option, Some, None, refl, sym, ap, ◌∙◌, subst, arith}
use Rattle.std.specs.List.{cons_option}
use Rattle.std.specs.Prelude.{◌==◌, filter_map, option_map, option_and_then, slice_get, unwrap_or, if◌then◌else◌}
use Rattle.std.proofs.lemmas.List.{length-map}
use Rattle.std.proofs.lemmas.List.Sums.{sum_by-cons}
use Rattle.std.proofs.lemmas.Option.{slice_get_past}
use Rattle.be_facts.proofs.Numbers.{eq_self, eq_false_tells, eq_tells}
use Rattle.be_geom.specs.Places.{less}
use Rattle.be_geom.specs.declared.point.Point.{Point}
use Rattle.be_geom.specs.declared.rect.Rect.{Rect}
use Rattle.be_machine.proofs.NumbersGrow.{IsRooted}
use Rattle.be_machine.proofs.WorkListing.{preorder_once, times}
use Rattle.be_machine.specs.Lists.{with_both}
use Rattle.be_machine.specs.Orderly.{one_if}
use Rattle.be_machine.specs.State.{State}
use Rattle.be_machine.specs.Update.{listing_of}
use Rattle.be_machine.specs.Windows.{corner_at, dirty_of, tree_at}
use Rattle.be_update.specs.Listing.{listed_views, pixels_of, rect_in, rect_round, stopped_rect}
use Rattle.be_update.specs.Sessions.{session_of}
use Rattle.be_views.specs.Trees.{Tree, View, corner_in, parent_of, place_from, place_of, preorder}
use Rattle.be_views.specs.Whole.{IsTree}

-- ---- different numbers below n are n at most

without : ℕ → List ℕ → List ℕ
without n [] = []
without n (x ∷ xs) = if n == x then without n xs else x ∷ without n xs

times_more : (u x : ℕ) (xs : List ℕ) → times u (x ∷ xs) ≡ one_if (u == x) + times u xs
times_more u x xs = sum_by-cons (λ v. one_if (u == v)) x xs

length_by : (n x : ℕ) (xs ys : List ℕ) (b : Bool) → length xs ≡ times n xs + length ys → length (x ∷ xs) ≡ (one_if b + times n xs) + length (if b then ys else x ∷ ys)
length_by n x xs ys true h = omega (arith, h)
length_by n x xs ys false h = omega (arith, h)

without_length : (n : ℕ) (xs : List ℕ) → length xs ≡ times n xs + length (without n xs)
unfolding without
without_length n [] = omega arith
without_length n (x ∷ xs) = length_by n x xs (without n xs) (n == x) (without_length n xs) ∙ ap (λ k. k + length (if n == x then without n xs else x ∷ without n xs)) (sym (times_more n x xs))

fewer_by : (u x : ℕ) (xs ys : List ℕ) (b : Bool) → times u ys ≤ times u xs → times u (if b then ys else x ∷ ys) ≤ one_if (u == x) + times u xs
fewer_by u x xs ys true h = omega (arith, h)
fewer_by u x xs ys false h = omega (arith, h, times_more u x ys)

fewer : (u n : ℕ) (xs : List ℕ) → times u (without n xs) ≤ times u xs
unfolding without
fewer u n [] = omega arith
fewer u n (x ∷ xs) = subst (λ k. times u (if n == x then without n xs else x ∷ without n xs) ≤ k) (sym (times_more u x xs)) (fewer_by u x xs (without n xs) (n == x) (fewer u n xs))

gone_by : (n x : ℕ) (ys : List ℕ) (b : Bool) → (n == x) ≡ b → times n ys ≡ 0 → times n (if b then ys else x ∷ ys) ≡ 0
gone_by n x ys true e h = h
gone_by n x ys false e h =
    let step : times n (x ∷ ys) ≡ one_if false + times n ys = times_more n x ys ∙ ap (λ b. one_if b + times n ys) e in
    omega (arith, step, h)

gone : (n : ℕ) (xs : List ℕ) → times n (without n xs) ≡ 0
unfolding without
gone n [] = refl
gone n (x ∷ xs) = gone_by n x (without n xs) (n == x) refl (gone n xs)

past_by : (u n : ℕ) (xs : List ℕ) (b : Bool) → (u == n) ≡ b → n ≤ u → (suc n ≤ u → times u xs ≡ 0) → times u (without n xs) ≡ 0
past_by u n xs true e le none = subst (λ k. times k (without n xs) ≡ 0) (sym (eq_tells u n e)) (gone n xs)
past_by u n xs false e le none =
    let other : u ≡ n → ⊥ = eq_false_tells u n e in
    let zero_is : times u xs ≡ 0 = none (omega (arith, other, le)) in
    omega (arith, fewer u n xs, zero_is)

different : (n : ℕ) (xs : List ℕ) → ((u : ℕ) → times u xs ≤ 1) → ((u : ℕ) → n ≤ u → times u xs ≡ 0) → length xs ≤ n
different zero [] once none = omega arith
different zero (x ∷ xs) once none =
    let never : times x (x ∷ xs) ≡ 0 = none x (omega arith) in
    let here : times x (x ∷ xs) ≡ 1 + times x xs = times_more x x xs ∙ ap (λ b. one_if b + times x xs) (eq_self x) in
    absurd (omega (arith, never, here))
different (suc n) xs once none =
    let rest : length (without n xs) ≤ n = different n (without n xs) (λ u. omega (arith, fewer u n xs, once u)) (λ u le. past_by u n xs (u == n) refl le (λ more. none u more)) in
    omega (arith, rest, without_length n xs, once n)

-- ---- the views that are listed

module _ (u : ℕ) (g : ℕ → Option Rect) where
  abbrev numbers : List ℕ → List ℕ
  numbers vs = map (λ (p : ℕ × Rect). p.0) (filter_map (λ v. option_map (λ r. (v, r)) (g v)) vs)

  listed_or : (v : ℕ) (o : Option Rect) (rest : List (ℕ × Rect)) → times u (map (λ (p : ℕ × Rect). p.0) (cons_option (option_map (λ r. (v, r)) o) rest)) ≤ one_if (u == v) + times u (map (λ (p : ℕ × Rect). p.0) rest)
  listed_or v (Some r) rest = omega (arith, times_more u v (map (λ (p : ℕ × Rect). p.0) rest))
  listed_or v None rest = omega arith

  listed_some : (vs : List ℕ) → times u (numbers vs) ≤ times u vs
  listed_some [] = omega arith
  listed_some (v ∷ vs) = omega (arith, listed_or v (g v) (filter_map (λ v. option_map (λ r. (v, r)) (g v)) vs), listed_some vs, times_more u v vs)

  test_by : (v : ℕ) (r : Rect) (b : Bool) → (u == v) ≡ b → g u ≡ None → g v ≡ Some r → one_if b ≡ 0
  test_by v r true e none some = let never : None ≡ Some r = sym none ∙ ap g (eq_tells u v e) ∙ some in absurd (cc)
  test_by v r false e none some = refl

  none_or : (v : ℕ) (o : Option Rect) (rest : List (ℕ × Rect)) → g u ≡ None → g v ≡ o → times u (map (λ (p : ℕ × Rect). p.0) rest) ≡ 0 → times u (map (λ (p : ℕ × Rect). p.0) (cons_option (option_map (λ r. (v, r)) o) rest)) ≡ 0
  none_or v (Some r) rest none is h = omega (arith, times_more u v (map (λ (p : ℕ × Rect). p.0) rest), test_by v r (u == v) refl none is, h)
  none_or v None rest none is h = h

  listed_none : (vs : List ℕ) → g u ≡ None → times u (numbers vs) ≡ 0
  listed_none [] none = refl
  listed_none (v ∷ vs) none = none_or v (g v) (filter_map (λ v. option_map (λ r. (v, r)) (g v)) vs) none refl (listed_none vs none)

no_place_from : (steps : ℕ) (tree : Tree) (v : ℕ) → slice_get tree v ≡ None → place_from steps tree v ≡ None
no_place_from zero tree v none = refl
no_place_from (suc steps) tree v none = ap (option_and_then (λ (view : View). corner_in (place_from steps tree) view.frame view.parent)) none

no_rect : (tree : Tree) (session : List Point) (v : ℕ) → length tree ≤ v → rect_in tree session v ≡ None
unfolding place_of
no_rect tree session v past =
    ap (option_and_then (λ place. option_map stopped_rect (rect_round (map (λ p. less p place) (pixels_of tree v session))))) (no_place_from (length tree) tree v (slice_get_past tree v past))

root_by : (o : Option ℕ) → ((parent : ℕ) → o ≡ Some parent → parent < 0) → o ≡ None
root_by (Some parent) low = absurd (omega (arith, low parent refl))
root_by None low = refl

rooted : (tree : Tree) → IsTree tree → IsRooted tree
rooted tree is = root_by (parent_of tree 0) (λ parent e. is.parents.below 0 parent e)

few_of : (tree : Tree) (session : List Point) → IsTree tree → length (listed_views tree session) ≤ 32
unfolding listed_views
few_of tree session is =
    let g : ℕ → Option Rect = rect_in tree session in
    let few : length (numbers 0 g (preorder tree)) ≤ length tree =
    different (length tree) (numbers 0 g (preorder tree)) (λ u. omega (arith, listed_some u g (preorder tree), preorder_once tree u (rooted tree is))) (λ u past. listed_none u g (preorder tree) (no_rect tree session u past)) in
    omega (arith, few, is.few, length-map (filter_map (λ v. option_map (λ r. (v, r)) (g v)) (preorder tree)) (λ (p : ℕ × Rect). p.0))

pub few_listed : (s : State) (w : ℕ) (corner : Point) (tree : Tree) → corner_at s w ≡ Some corner → tree_at s w ≡ Some tree → IsTree tree → length (listing_of s w) ≤ 32
unfolding listing_of
few_listed s w corner tree c t is =
    subst (λ (l : List (ℕ × Rect)). length l ≤ 32) (sym (λ i. unwrap_or (with_both (λ corner tree. Some (listed_views tree (session_of corner (dirty_of s w)))) (c i) (t i)) []))
    (few_of tree (session_of corner (dirty_of s w)) is)
