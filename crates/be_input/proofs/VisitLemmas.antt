-- What a view hears of one move, and so of many.
use Rattle.std.specs.Prelude.{filter, map, option_to_list, slice_get}
use Rattle.std.proofs.Common.{◌≡◌, ℕ, ◌<◌, ◌==◌, zero, suc, ℤ, Bool, true, false, ◌&&◌, if◌then◌else◌, List, [], ◌∷◌, ◌++◌, length, append_assoc, Option, Some, None, option_map, option_and_then, arith, refl, sym, ap, subst, ◌∙◌}
use Rattle.std.proofs.lemmas.Bool.{and_parts, eqb-true, eq-eqb, false≢true}
use Rattle.std.proofs.lemmas.Option.{none-some, same_Some}
use Rattle.be_facts.proofs.Lists.{some_inner}
use Rattle.be_geom.specs.declared.point.Point.{Point}
use Rattle.be_geom.specs.declared.rect.Rect.{Rect}
use Rattle.be_geom.specs.Places.{at_pixel, less, sum_of}
use Rattle.be_message.specs.declared.target.Target.TheVariants as target
use Rattle.be_message.specs.Messages.{Message}
use Rattle.be_stack.specs.Owner.{owner_at}
use Rattle.be_stack.specs.Windows.{Windows}
use Rattle.be_views.specs.Trees.{View, Tree, parent_of, left_top, corner_in, place_from, place_of}
use Rattle.be_views.specs.Pixels.{view_at}
use Rattle.be_views.specs.Whole.{AreParentsFirst}
use Rattle.be_views.proofs.KinLemmas.{seen_there}
use Rattle.be_input.specs.Deliveries.{Post, place_in, transit_message, mouse_post, mouse_posts, is_same, move_posts, delivered}
use Rattle.be_input.specs.Pointing.{corner_of, view_in, view_under, with_window_number, under_pointer}
use Rattle.be_input.specs.Laws.{is_for, told_to, heard_by, HasTransit, AreVisits, ended, entered, inside, exited, is_over, under_last, IsThere, AreAllParentsFirst, HearsOfVisits}

-- ---- a view that is under the pointer is there

abbrev HasCorner : Option Point → Type 0
HasCorner o = (q : Point) × (o ≡ Some q)

corner_there : (place : ℕ → Option Point) (frame : Rect) (parent : Option ℕ) → ((p : ℕ) → parent ≡ Some p → HasCorner (place p)) → HasCorner (corner_in place frame parent)
corner_there place frame (Some p) above = let q = above p refl in (sum_of (left_top frame) q.0, ap (option_map (sum_of (left_top frame))) q.1)
corner_there place frame None above = (left_top frame, refl)

place_by : (place : ℕ → Option Point) (tree : Tree) (v : ℕ) (o : Option View) → slice_get tree v ≡ o → v < length tree → ((p : ℕ) → parent_of tree v ≡ Some p → HasCorner (place p)) →
    HasCorner (option_and_then (λ view. corner_in place view.frame view.parent) o)
place_by place tree v None none within above = absurd (got_within tree v within none)
  where
    got_within : (tree : Tree) (v : ℕ) → v < length tree → slice_get tree v ≡ None → ⊥
    got_within [] v h none = absurd (omega arith)
    got_within (w ∷ tree) zero h none = none-some w (sym none)
    got_within (w ∷ tree) (suc v) h none = got_within tree v (omega arith) none
place_by place tree v (Some view) is within above =
    corner_there place view.frame view.parent (λ p parent. above p (ap (option_and_then (λ (w : View). w.parent)) is ∙ parent))

place_there : (tree : Tree) (n v : ℕ) → AreParentsFirst tree → v < n → v < length tree → HasCorner (place_from n tree v)
place_there tree zero v first fuel within = absurd (omega arith)
place_there tree (suc n) v first fuel within =
    place_by (place_from n tree) tree v (slice_get tree v) refl within (λ p is. let below = first.below v p is in place_there tree n p first (omega arith) (omega arith))

has_place : (tree : Tree) (v : ℕ) → AreParentsFirst tree → v < length tree → HasCorner (place_of tree v)
unfolding place_of
has_place tree v first within = place_there tree (length tree) v first within within

there_in : (windows : Windows) (trees : List Tree) (w : ℕ) (x y : ℤ) (v : ℕ) → AreAllParentsFirst trees → view_under windows trees w x y ≡ Some v → IsThere windows trees (w, v)
unfolding view_under
there_in windows trees w x y v first at =
    let corner = some_inner (λ (corner : Point). view_in trees w (less (at_pixel x y) corner)) (corner_of windows w) v at in
    let seen = less (at_pixel x y) corner.0 in
    let tree = some_inner (λ (tree : Tree). view_at tree seen.x seen.y) (slice_get trees w) v corner.2 in
    let place = has_place tree.0 v (first w tree.0 tree.1) (seen_there tree.0 seen.x seen.y v tree.2) in
    record {
      corner = corner.0;
      corner_is = corner.1;
      place = place.0;
      place_is = ap (option_and_then (λ (t : Tree). place_of t v)) tree.1 ∙ place.1;
    }

there_with : (windows : Windows) (trees : List Tree) (w : ℕ) (x y : ℤ) (at : ℕ × ℕ) (o : Option ℕ) → AreAllParentsFirst trees → view_under windows trees w x y ≡ o → with_window_number w o ≡ Some at → IsThere windows trees at
there_with windows trees w x y at None first is numbered = absurd (none-some at numbered)
there_with windows trees w x y at (Some v) first is numbered =
    subst (λ (a : ℕ × ℕ). IsThere windows trees a) (same_Some (w, v) at numbered) (there_in windows trees w x y v first is)

there_under : (windows : Windows) (trees : List Tree) (p : Point) (at : ℕ × ℕ) → AreAllParentsFirst trees → under_pointer windows trees p ≡ Some at → IsThere windows trees at
unfolding under_pointer
there_under windows trees p at first is =
    let owner = some_inner (λ (w : ℕ). with_window_number w (view_under windows trees w p.x p.y)) (owner_at windows p.x p.y) at is in
    there_with windows trees owner.0 p.x p.y at (view_under windows trees owner.0 p.x p.y) first refl owner.2

-- ---- the view under the pointer, by its numbers

pair_is : (a b : ℕ × ℕ) → (a.0 == b.0 && a.1 == b.1) ≡ true → a ≡ b
pair_is a b same =
    let parts = and_parts (a.0 == b.0) (a.1 == b.1) same in
    let first = eqb-true a.0 b.0 parts.0 in
    let second = eqb-true a.1 b.1 parts.1 in
    λ i. (first i, second i)

pair_same : (a : ℕ × ℕ) → (a.0 == a.0 && a.1 == a.1) ≡ true
pair_same a = rw (eq-eqb a.0 a.0 refl, eq-eqb a.1 a.1 refl) refl

over_is : (at : ℕ × ℕ) (o : Option (ℕ × ℕ)) → is_over at o ≡ true → o ≡ Some at
over_is at None over = absurd (false≢true over)
over_is at (Some under) over = ap Some (pair_is under at over)

same_is : (old new : Option (ℕ × ℕ)) → is_same old new ≡ true → old ≡ new
same_is (Some a) (Some b) same = ap Some (pair_is a b same)
same_is None None same = refl
same_is (Some a) None same = absurd (false≢true same)
same_is None (Some b) same = absurd (false≢true same)

-- ---- posts

told_both : (at : ℕ × ℕ) (first second : List Post) → told_to at (first ++ second) ≡ told_to at first ++ told_to at second
told_both at [] second = refl
told_both at (post ∷ first) second = by (is_for at post) (told_both at first second)
  where
    by : (b : Bool) → told_to at (first ++ second) ≡ told_to at first ++ told_to at second
        → map (λ (p : Post). p.message) (if b then post ∷ filter (is_for at) (first ++ second) else filter (is_for at) (first ++ second))
        ≡ map (λ (p : Post). p.message) (if b then post ∷ filter (is_for at) first else filter (is_for at) first) ++ told_to at second
    by true same = ap (λ (ms : List Message). post.message ∷ ms) same
    by false same = same

-- a delivery holds one or two posts as they are
all_delivered : (a b : Option Post) → let posts = option_to_list a ++ option_to_list b in option_to_list (slice_get posts 0) ++ option_to_list (slice_get posts 1) ≡ posts
all_delivered (Some a) (Some b) = refl
all_delivered (Some a) None = refl
all_delivered None (Some b) = refl
all_delivered None None = refl

one_delivered : (a : Option Post) → let posts = option_to_list a in option_to_list (slice_get posts 0) ++ option_to_list (slice_get posts 1) ≡ posts
one_delivered (Some a) = refl
one_delivered None = refl

-- ---- what the view hears of one message

abbrev Hears : ℕ → List Message → Type 0
Hears transit ms = (m : Message) × (HasTransit transit m) × (ms ≡ m ∷ [])

-- a post to the view itself
told_own : (at : ℕ × ℕ) (post : Post) → is_for at post ≡ true → told_to at (post ∷ []) ≡ post.message ∷ []
told_own at post own = ap (λ b. map (λ (p : Post). p.message) (if b then post ∷ [] else [])) own

told_other : (at : ℕ × ℕ) (post : Post) → is_for at post ≡ false → told_to at (post ∷ []) ≡ []
told_other at post other = ap (λ b. map (λ (p : Post). p.message) (if b then post ∷ [] else [])) other

module _ (windows : Windows) (trees : List Tree) (message : Point → Message) (p : Point) (at : ℕ × ℕ) where
  abbrev posts : Option (ℕ × ℕ) → List Post
  posts o = mouse_posts windows trees message p o

  -- a view that is there gets it
  hears : (transit : ℕ) → ((q : Point) → HasTransit transit (message q)) → IsThere windows trees at → (o : Option (ℕ × ℕ)) → is_over at o ≡ true → Hears transit (told_to at (posts o))
  hears transit has there o over =
      let m = message (less (less p there.corner) there.place) in (
        m,
        has (less (less p there.corner) there.place),
        rw (over_is at o over) (rw (there.corner_is, there.place_is) (told_own at (record { window = at.0; target = target.View at.1; message = m }) (pair_same at))),
      )

  -- and no other view does
  others_hear : (under : ℕ × ℕ) → is_over at (Some under) ≡ false → (corner place : Option Point) →
      told_to at (option_to_list (option_and_then (λ corner. option_map (λ place. record { window = under.0; target = target.View under.1; message = message (less (less p corner) place) }) place) corner)) ≡ []
  others_hear under apart None place = refl
  others_hear under apart (Some corner) None = refl
  others_hear under apart (Some corner) (Some place) =
      told_other at (record { window = under.0; target = target.View under.1; message = message (less (less p corner) place) }) apart

  hears_not : (o : Option (ℕ × ℕ)) → is_over at o ≡ false → told_to at (posts o) ≡ []
  hears_not None apart = refl
  hears_not (Some under) apart = others_hear under apart (corner_of windows under.0) (place_in trees under)

-- ---- one move

entered_has : (q : Point) → HasTransit 0 (transit_message 0 q)
entered_has q = record { what = refl; transit_is = refl }

inside_has : (q : Point) → HasTransit 1 (transit_message 1 q)
inside_has q = record { what = refl; transit_is = refl }

exited_has : (q : Point) → HasTransit 2 (transit_message 2 q)
exited_has q = record { what = refl; transit_is = refl }

module _ (windows : Windows) (trees : List Tree) (p : Point) (at : ℕ × ℕ) (rest : List Message) (last : Bool) where
  -- it stays in one view, or in none
  stays : (o : Option (ℕ × ℕ)) (over : Bool) → is_over at o ≡ over → (o ≡ Some at → IsThere windows trees at) → AreVisits over rest last →
      AreVisits over (told_to at (mouse_posts windows trees (transit_message 1) p o) ++ rest) last
  stays o true is there visits =
      let heard = hears windows trees (transit_message 1) p at 1 inside_has (there (over_is at o is)) o is in
      rw heard.2 (inside heard.0 rest last heard.1 visits)
  stays o false is there visits = rw (hears_not windows trees (transit_message 1) p at o is) visits

  enters : (o : Option (ℕ × ℕ)) (over : Bool) → is_over at o ≡ over → (o ≡ Some at → IsThere windows trees at) → AreVisits over rest last →
      AreVisits false (told_to at (mouse_posts windows trees (transit_message 0) p o) ++ rest) last
  enters o true is there visits =
      let heard = hears windows trees (transit_message 0) p at 0 entered_has (there (over_is at o is)) o is in
      rw heard.2 (entered heard.0 rest last heard.1 visits)
  enters o false is there visits = rw (hears_not windows trees (transit_message 0) p at o is) visits

-- out of one view, or none, and into another
crosses : (windows : Windows) (trees : List Tree) (p : Point) (at : ℕ × ℕ) (rest : List Message) (last : Bool) (old new : Option (ℕ × ℕ)) (was is : Bool) →
    is_over at old ≡ was → is_over at new ≡ is → (was ≡ true → is ≡ true → ⊥) →
    (old ≡ Some at → IsThere windows trees at) → (new ≡ Some at → IsThere windows trees at) → AreVisits is rest last →
    AreVisits was (told_to at (mouse_posts windows trees (transit_message 2) p old) ++ (told_to at (mouse_posts windows trees (transit_message 0) p new) ++ rest)) last
crosses windows trees p at rest last old new true true over under apart there under_there visits = absurd (apart refl refl)
crosses windows trees p at rest last old new true false over under apart there under_there visits =
    let heard = hears windows trees (transit_message 2) p at 2 exited_has (there (over_is at old over)) old over in
    let later = enters windows trees p at rest last new false under under_there visits in
    rw heard.2 (exited heard.0 (told_to at (mouse_posts windows trees (transit_message 0) p new) ++ rest) last heard.1 later)
crosses windows trees p at rest last old new false is over under apart there under_there visits =
    rw (hears_not windows trees (transit_message 2) p at old over) (enters windows trees p at rest last new is under under_there visits)

-- the posts of a move, and what comes of the moves after it
moves : (windows : Windows) (trees : List Tree) (p : Point) (at : ℕ × ℕ) (rest : List Message) (last : Bool) (old new : Option (ℕ × ℕ)) (same : Bool) → is_same old new ≡ same →
    (old ≡ Some at → IsThere windows trees at) → (new ≡ Some at → IsThere windows trees at) → AreVisits (is_over at new) rest last →
    AreVisits (is_over at old) (told_to at (if same then mouse_posts windows trees (transit_message 1) p new
    else mouse_posts windows trees (transit_message 2) p old ++ mouse_posts windows trees (transit_message 0) p new) ++ rest) last
moves windows trees p at rest last old new true same there under_there visits =
    rw (same_is old new same) (stays windows trees p at rest last new (is_over at new) refl under_there visits)
moves windows trees p at rest last old new false apart there under_there visits =
    rw (told_both at (mouse_posts windows trees (transit_message 2) p old) (mouse_posts windows trees (transit_message 0) p new), append_assoc)
    (crosses windows trees p at rest last old new (is_over at old) (is_over at new) refl refl
    (λ over under. same_not (over_is at old over) (over_is at new under)) there under_there visits)
  where
    same_not : old ≡ Some at → new ≡ Some at → ⊥
    same_not over under = false≢true (sym apart ∙ (rw (over, under) (pair_same at)))

posts_whole : (windows : Windows) (trees : List Tree) (p : Point) (old new : Option (ℕ × ℕ)) →
    let posts = move_posts windows trees p old new in option_to_list (slice_get posts 0) ++ option_to_list (slice_get posts 1) ≡ posts
posts_whole windows trees p old new = by (is_same old new)
  where
    by : (b : Bool) → let posts = if b then mouse_posts windows trees (transit_message 1) p new else mouse_posts windows trees (transit_message 2) p old ++ mouse_posts windows trees (transit_message 0) p new
        in option_to_list (slice_get posts 0) ++ option_to_list (slice_get posts 1) ≡ posts
    by true = one_delivered (option_and_then (mouse_post windows trees (transit_message 1) p) new)
    by false = all_delivered (option_and_then (mouse_post windows trees (transit_message 2) p) old) (option_and_then (mouse_post windows trees (transit_message 0) p) new)

pub hears_of_visits : HearsOfVisits
unfolding delivered
hears_of_visits windows pointing first at there [] = ended (is_over at pointing.under)
hears_of_visits windows pointing first at there (p ∷ places) =
    let new = under_pointer windows pointing.trees p in
    let under_there = λ (is : new ≡ Some at). there_under windows pointing.trees p at first is in
    let later = hears_of_visits windows (record pointing { under = new }) first at under_there places in
    rw (posts_whole windows pointing.trees p pointing.under new)
    (moves windows pointing.trees p at (heard_by at windows (record pointing { under = new }) places) (is_over at (under_last windows pointing.trees new places))
    pointing.under new (is_same pointing.under new) refl there under_there later)
