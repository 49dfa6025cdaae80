-- A tree comes back from its archive.
use Rattle.std.proofs.Common.{◌≡◌, ℕ, zero, suc, ℤ, pos, ◌+◌, ◌<◌, ◌≤◌, ◌≤ℤ◌, ◌==◌, Bool, true}
use Rattle.std.proofs.Common.{false}
use Rattle.std.proofs.Common.{nat_lt, cond, ◌&&◌, List, [], ◌∷◌, ◌++◌, map, length, Option}
use Rattle.std.proofs.Common.{Some, None, Result, Ok, Err, refl, sym, ap, ◌∙◌, subst, append-nil}
use Rattle.std.proofs.Common.{inl, inr, arith}
use Rattle.std.specs.Prelude.{int_lt, option_map, option_and_then, slice_get, unwrap_or}
use Rattle.std.specs.Option.{option_map_or}
use Rattle.std.proofs.lemmas.Bool.{cases_order, or_from, and_from}
use Rattle.std.proofs.lemmas.Bool.Decides.{nat_tests}
use Rattle.std.proofs.lemmas.List.{append_assoc, length-append, length-map}
use Rattle.std.proofs.lemmas.Option.{none-some, slice_get-map, slice_get_past}
use Rattle.be_facts.proofs.Numbers.{suc_is_not_zero, nat_lt_from}
use Rattle.be_facts.proofs.Truths.{false_is_not_true}
use Rattle.be_follow.specs.declared.mode.Across.{Across}
use Rattle.be_follow.specs.declared.mode.Across.TheVariants as across
use Rattle.be_follow.specs.declared.mode.Down.{Down}
use Rattle.be_follow.specs.declared.mode.Down.TheVariants as down
use Rattle.be_follow.specs.declared.mode.Follow.{Follow}
use Rattle.be_geom.specs.declared.point.Point.{Point}
use Rattle.be_geom.specs.declared.rect.Rect.{Rect}
use Rattle.be_message.specs.Messages.{Datum, Field}
use Rattle.be_views.specs.Trees.{View, Tree, parent_of}
use Rattle.be_views.specs.Whole.{AreParentsFirst, IsTree, depth_above, depth_in, depth_from}
use Rattle.be_views.specs.Whole.{depth_of}
use Rattle.be_views.specs.Whole.{root_view}
use Rattle.be_views.proofs.TreeLemmas.{depth_more, depth_same}
use Rattle.be_archive.specs.Archives.{across_number, across_value, archived, down_number}
use Rattle.be_archive.specs.Archives.{down_value}
use Rattle.be_archive.specs.Archives.{frame_value, parent_value, view_word}
use Rattle.be_archive.specs.Laws.{IsWindowTree}
use Rattle.be_archive.specs.Reading.{Refusal, bad_size, not_archive, too_many, can_follow}
use Rattle.be_archive.specs.Reading.{has_columns, have_form, is_archive, is_negative}
use Rattle.be_archive.specs.Reading.{mode_at, row_at, size_in, size_of, tree_in, value_of}
use Rattle.be_archive.specs.Reading.{values_at}
use Rattle.be_archive.specs.Reading.{view_count, views_behind, views_from}
use Rattle.be_archive.specs.Values.{across_of, down_of, number_in, point_in, rect_in}
use Rattle.be_archive.proofs.Read.{goes_on}

-- ---- the views in front

got_front : (tree rest : Tree) (v : ℕ) → v < length tree
    → slice_get (tree ++ rest) v ≡ slice_get tree v
got_front [] rest v h = absurd (let n : v < 0 = h in omega (arith, n))
got_front (u ∷ tree) rest zero h = refl
got_front (u ∷ tree) rest (suc v) h =
    let n : suc v < suc (length tree) = h in got_front tree rest v (omega (arith, n))

got_at : (tree rest : Tree) (w : View) → slice_get (tree ++ w ∷ rest) (length tree) ≡ Some w
got_at [] rest w = refl
got_at (u ∷ tree) rest w = got_at tree rest w

parent_front : (tree rest : Tree) (v : ℕ) → v < length tree
    → parent_of (tree ++ rest) v ≡ parent_of tree v
parent_front tree rest v h =
    ap (λ (o : Option View). option_and_then (λ view. view.parent) o) (got_front tree rest v h)

parent_at : (tree rest : Tree) (w : View) → parent_of (tree ++ w ∷ rest) (length tree) ≡ w.parent
parent_at tree rest w =
    ap (λ (o : Option View). option_and_then (λ view. view.parent) o) (got_at tree rest w)

no_parent : (tree : Tree) (v p : ℕ) → length tree ≤ v → parent_of tree v ≡ Some p → ⊥
no_parent tree v p past at =
    none-some p (sym (ap (λ (o : Option View). option_and_then (λ view. view.parent) o)
    (slice_get_past tree v past)) ∙ at)

first_front : (tree rest : Tree) → AreParentsFirst (tree ++ rest) → AreParentsFirst tree
first_front tree rest first = record {
  rooted = λ v within none.
      let long = length-append tree rest in
      first.rooted v (omega (arith, long, within)) (parent_front tree rest v within ∙ none);
  below = λ v p at. elim (cases_order v (length tree)) [
    | inl same ↦ absurd (no_parent tree v p (omega (arith, same)) at)
    | inr other ↦ elim other [
      | inl nat_lt_from ↦ first.below v p (parent_front tree rest v nat_lt_from ∙ at)
      | inr more ↦ absurd (no_parent tree v p (omega (arith, more)) at)
    ]
  ];
}

depth_front : (tree rest : Tree) (n v : ℕ) → AreParentsFirst tree → v < length tree
    → depth_from n (tree ++ rest) v ≡ depth_from n tree v
depth_front tree rest zero v first h = refl
depth_front tree rest (suc n) v first h =
    ap (depth_in (depth_from n (tree ++ rest))) (got_front tree rest v h)
    ∙ depth_same (depth_from n (tree ++ rest)) (depth_from n tree) (slice_get tree v)
    (λ p is. let below = first.below v p is in depth_front tree rest n p first (omega arith))

-- a view lies one deeper than its parent, as deep as that lies among the views in front
depth_at : (tree rest : Tree) (w : View) (p : ℕ) → AreParentsFirst tree → w.parent ≡ Some p
    → p < length tree → depth_of (tree ++ w ∷ rest) (length tree) ≡ depth_of tree p + 1
unfolding depth_of
depth_at tree rest w p first is h =
    let all = tree ++ w ∷ rest in
    let m = length tree + length rest in
    let more : suc (length rest) ≡ length rest + 1 = omega arith in
    let long : length all ≡ suc m = length-append tree (w ∷ rest) ∙ omega arith in
    ap (λ n. depth_from n all (length tree)) long
    ∙ (ap (depth_in (depth_from m all)) (got_at tree rest w)
    ∙ (ap (λ o. depth_above (depth_from m all) o + 1) is
    ∙ ap (λ n. n + 1) (depth_front tree (w ∷ rest) m p first h
    ∙ depth_more tree m (length tree) p first (omega (arith, h)) h)))

-- ---- one view

across_back : (a : Across) → across_of (across_number a) ≡ Some a
across_back across.Left = refl
across_back across.Right = refl
across_back across.LeftRight = refl
across_back across.Center = refl

down_back : (d : Down) → down_of (down_number d) ≡ Some d
down_back down.Top = refl
down_back down.Bottom = refl
down_back down.TopBottom = refl
down_back down.Center = refl

mode_of : Option Across → Option Down → Option Follow
mode_of a d =
    option_and_then (λ across. option_map (λ down. record { across = across; down = down }) d) a

mode_back : (fs : List Field) (k : ℕ) (m : Follow)
    → option_and_then across_of (value_of number_in 3 k fs) ≡ Some m.across
    → option_and_then down_of (value_of number_in 4 k fs) ≡ Some m.down → mode_at k fs ≡ Some m
unfolding mode_of
mode_back fs k m a d =
    ap (λ o. mode_of o (option_and_then down_of (value_of number_in 4 k fs))) a
    ∙ ap (mode_of (Some m.across)) d

row_of : Option ℕ → Option Rect → Option Follow → Option View
row_of n r m =
    option_and_then
    (λ parent. option_and_then
    (λ frame. option_map
    (λ mode. record { parent = Some parent; frame = frame; mode = mode }) m) r) n

-- the fields have these views' values
record Have (fs : List Field) (vs : List View) : Type 0 where
  parents : values_at 1 fs ≡ map parent_value vs
  frames : values_at 2 fs ≡ map frame_value vs
  across : values_at 3 fs ≡ map across_value vs
  down : values_at 4 fs ≡ map down_value vs

value_back : (xs : List Datum) (f : View → Datum) (vs : List View) (k : ℕ) (w : View)
    → xs ≡ map f vs → slice_get vs k ≡ Some w → slice_get xs k ≡ Some (f w)
value_back xs f vs k w is at =
    ap (λ (l : List Datum). slice_get l k) is ∙ (slice_get-map f vs k ∙ ap (option_map f) at)

row_back : (fs : List Field) (vs : List View) (k p : ℕ) (w : View) → Have fs vs
    → slice_get vs k ≡ Some w → w.parent ≡ Some p → row_at k fs ≡ Some w
unfolding row_of
row_back fs vs k p w h at is =
    let number = ap (option_and_then number_in)
    (value_back (values_at 1 fs) parent_value vs k w h.parents at) in
    let frame = ap (option_and_then rect_in)
    (value_back (values_at 2 fs) frame_value vs k w h.frames at) in
    let across = ap (λ o. option_and_then across_of (option_and_then number_in o))
    (value_back (values_at 3 fs) across_value vs k w h.across at) ∙ across_back w.mode.across in
    let down = ap (λ o. option_and_then down_of (option_and_then number_in o))
    (value_back (values_at 4 fs) down_value vs k w h.down at) ∙ down_back w.mode.down in
    ap (λ o. row_of o (value_of rect_in 2 k fs) (mode_at k fs)) number
    ∙ (ap (λ o. row_of (Some (unwrap_or w.parent 0)) o (mode_at k fs)) frame
    ∙ (ap (row_of (Some (unwrap_or w.parent 0)) (Some w.frame)) (mode_back fs k w.mode across down)
    ∙ ap (λ (o : Option ℕ). Some (record { parent = o; frame = w.frame; mode = w.mode }))
    (ap (λ (o : Option ℕ). Some (unwrap_or o 0)) is ∙ sym is)))

both_less : (a b c : ℕ) → a < b → c < 8 → (nat_lt a b && nat_lt c 8) ≡ true
both_less a b c h k = and_from (nat_lt a b) (nat_lt c 8) (nat_lt_from a b h) (nat_lt_from c 8 k)

follow_back : (tree : Tree) (w : View) (p : ℕ) → w.parent ≡ Some p → p < length tree
    → depth_of tree p < 8 → can_follow tree w ≡ true
follow_back tree w p is before above =
    ap (λ o. option_map_or (λ q. nat_lt q (length tree) && nat_lt (depth_of tree q) 8) o false) is
    ∙ both_less p (length tree) (depth_of tree p) before above

-- ---- all views

some_parent : (tree rest : Tree) (w : View) (k : ℕ) (o : Option ℕ) → IsTree (tree ++ w ∷ rest)
    → length tree ≡ suc k → w.parent ≡ o → (p : ℕ) × (w.parent ≡ Some p)
some_parent tree rest w k (Some p) t long is = (p, is)
some_parent tree rest w k None t long is =
    let all = length-append tree (w ∷ rest) in
    let n : length (w ∷ rest) ≡ suc (length rest) = refl in
    let zero_is = t.parents.rooted (length tree) (omega (arith, all, n))
    (parent_at tree rest w ∙ is) in
    absurd (omega (arith, zero_is, long))

views_back : (fs : List Field) (root : View) (vs : List View) (before rest : Tree) (k : ℕ)
    → Have fs vs → IsTree (before ++ rest) → root ∷ vs ≡ before ++ rest → length before ≡ suc k
    → views_from fs (length rest) k before ≡ Ok (before ++ rest)
views_back fs root vs before [] k h t all long =
    ap (λ (l : Tree). Ok l) (sym (append-nil before))
views_back fs root vs before (w ∷ rest) k h t all long =
    let parent = some_parent before rest w k w.parent t long refl in
    let p = parent.0 in
    let below = t.parents.below (length before) p (parent_at before rest w ∙ parent.1) in
    let first = first_front before (w ∷ rest) t.parents in
    let deep = t.depths (length before) in
    let one = depth_at before rest w p first parent.1 below in
    let at : slice_get vs k ≡ Some w =
    ap (λ n. slice_get (root ∷ vs) n) (sym long)
    ∙ (ap (λ (l : Tree). slice_get l (length before)) all ∙ got_at before rest w) in
    let row = row_back fs vs k p w h at parent.1 in
    let follows = follow_back before w p parent.1 below (omega (arith, deep, one)) in
    let assoc = append_assoc before (w ∷ []) rest in
    goes_on fs (length rest) k before w row follows
    ∙ (views_back fs root vs (before ++ w ∷ []) rest (k + 1) h (subst IsTree (sym assoc) t)
    (all ∙ sym assoc) (length-append before (w ∷ []) ∙ (ap (λ n. n + 1) long ∙ omega arith))
    ∙ ap (λ (l : Tree). Ok l) assoc)

-- ---- the form

equal : (a b : ℕ) → a ≡ b → (a == b) ≡ true
equal a b h = grind (arith, nat_tests, h)

all_true : (b c d : Bool) → b ≡ true → c ≡ true → d ≡ true
    → ((((((true && true) && b) && true) && c) && true) && d) ≡ true
all_true true true d x y z = z
all_true true false d x y z = absurd (false_is_not_true y)
all_true false c d x y z = absurd (false_is_not_true x)

by_some : (c a b : Bool) → c ≡ false → b ≡ true → (true && cond c a b) ≡ true
by_some true a b h k = absurd (false_is_not_true (sym h))
by_some false a b h k = k

form_back : (root : View) (vs : List View) → have_form (archived (root ∷ vs)).fields ≡ true
unfolding archived
form_back root [] = refl
form_back root (v ∷ vs) =
    let many = λ (f : View → Datum). length-map (v ∷ vs) f ∙ sym (length-map (v ∷ vs) parent_value) in
    by_some (view_count (archived (root ∷ v ∷ vs)).fields == 0) _
    (true && has_columns (archived (root ∷ v ∷ vs)).fields)
    (suc_is_not_zero (length (map parent_value vs)))
    (all_true _ _ _ (equal _ _ (many frame_value)) (equal _ _ (many across_value))
    (equal _ _ (many down_value)))

have_back : (root : View) (vs : List View) → Have (archived (root ∷ vs)).fields vs
unfolding archived
have_back root [] = record { parents = refl; frames = refl; across = refl; down = refl }
have_back root (v ∷ vs) = record { parents = refl; frames = refl; across = refl; down = refl }

count_back : (root : View) (vs : List View)
    → view_count (archived (root ∷ vs)).fields ≡ length vs
unfolding archived
count_back root [] = refl
count_back root (v ∷ vs) = length-map (v ∷ vs) parent_value

-- ---- the size

size_at : (root : View) (vs : List View)
    → value_of point_in 0 0 (archived (root ∷ vs)).fields
    ≡ Some (record { x = root.frame.right; y = root.frame.bottom })
unfolding archived
size_at root [] = refl
size_at root (v ∷ vs) = refl

not_negative : (z : ℤ) → pos 0 ≤ℤ z → int_lt z (pos 0) ≡ false
not_negative z h = grind (arith, nat_tests, h)

not_more : (n : ℕ) → n ≤ 31 → nat_lt 31 n ≡ false
not_more n h = grind (arith, nat_tests)

by_tests : (b c : Bool) (size : Point) → b ≡ false → c ≡ false
    → cond b (Err bad_size) (cond c (Err too_many) (Ok size)) ≡ Ok size
by_tests true c size h k = absurd (false_is_not_true (sym h))
by_tests false true size h k = absurd (false_is_not_true (sym k))
by_tests false false size h k = refl

by_archive : (b : Bool) (r : Result Point Refusal) → b ≡ true → cond b r (Err not_archive) ≡ r
by_archive true r h = refl
by_archive false r h = absurd (false_is_not_true h)

what_back : (root : View) (vs : List View) → ((archived (root ∷ vs)).what == view_word) ≡ true
unfolding archived
what_back root vs = refl

size_back : (root : View) (vs : List View) → pos 0 ≤ℤ root.frame.right → pos 0 ≤ℤ root.frame.bottom
    → length vs ≤ 31
    → size_in (archived (root ∷ vs)) ≡ Ok (record { x = root.frame.right; y = root.frame.bottom })
size_back root vs wide high few =
    let m = archived (root ∷ vs) in
    let size : Point = record { x = root.frame.right; y = root.frame.bottom } in
    let count = count_back root vs in
    by_archive (is_archive m) (size_of m.fields (value_of point_in 0 0 m.fields))
    (and_from (m.what == view_word) (have_form m.fields) (what_back root vs) (form_back root vs))
    ∙ (ap (size_of m.fields) (size_at root vs)
    ∙ by_tests (is_negative size) (nat_lt 31 (view_count m.fields)) size
    (or_from (int_lt size.x (pos 0)) (int_lt size.y (pos 0)) (not_negative size.x wide)
    (not_negative size.y high))
    (not_more (view_count m.fields) (omega (arith, count, few))))

pub comes_back : (tree : Tree) → IsWindowTree tree → tree_in (archived tree) ≡ Ok tree
unfolding tree_in
comes_back [] t = absurd (let n : 0 < 0 = t.whole.some in omega (arith, n))
comes_back (root ∷ vs) t =
    let fs = (archived (root ∷ vs)).fields in
    let is = t.rooted root refl in
    let few = t.whole.few in
    let long : length (root ∷ vs) ≡ suc (length vs) = refl in
    ap (views_behind fs) (size_back root vs (t.wide root refl) (t.high root refl)
    (omega (arith, few, long)))
    ∙ (ap (λ n. views_from fs n 0 (root_view root.frame.right root.frame.bottom ∷ []))
    (count_back root vs)
    ∙ (ap (λ (r : View). views_from fs (length vs) 0 (r ∷ [])) (sym is)
    ∙ views_back fs root vs (root ∷ []) vs 0 (have_back root vs) t.whole refl refl))
