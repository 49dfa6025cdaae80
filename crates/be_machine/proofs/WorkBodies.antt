-- The Draw bodies of the views that an update lists cost no more than all Draw bodies of the window.
use Rattle.std.proofs.Common.{◌≡◌, ℕ, ◌+◌, ◌≤◌, Bool, true, false, cond, List, [], ◌∷◌, map, sum_by, Option, Some, None, refl, ap, arith}
use Rattle.std.specs.List.{cons_option}
use Rattle.std.specs.Prelude.{◌==◌, ◌&&◌, filter, filter_map, find, flat_map, option_map, unwrap_or, if◌then◌else◌}
use Rattle.std.proofs.lemmas.List.Sums.{sum_by-append, sum_by-cons, sum_by-le-sum_by}
use Rattle.be_geom.specs.declared.point.Point.{Point}
use Rattle.be_geom.specs.declared.rect.Rect.{Rect}
use Rattle.be_script.specs.declared.DrawLine.{DrawLine}
use Rattle.be_script.specs.Script.{Declared}
use Rattle.be_script.specs.Windows.{draw_steps, draw_program}
use Rattle.be_update.specs.Listing.{listed_views, rect_in}
use Rattle.be_update.specs.Sessions.{session_of}
use Rattle.be_views.specs.Trees.{Tree, preorder}
use Rattle.be_machine.specs.Lists.{with_both}
use Rattle.be_machine.specs.Orderly.{one_if}
use Rattle.be_machine.specs.Program.{update_program}
use Rattle.be_machine.specs.State.{State}
use Rattle.be_machine.specs.Update.{listing_of}
use Rattle.be_machine.specs.Windows.{corner_at, tree_at, dirty_of}
use Rattle.be_machine.proofs.NumbersGrow.{IsRooted, AreRooted}
use Rattle.be_machine.proofs.WorkListing.{times, preorder_once}
use Rattle.be_machine.specs.Shares.{draw_cost, draws_cost}

-- ---- the views that are listed

listed_or : (u v : ℕ) (o : Option Rect) (rest : List (ℕ × Rect)) → times u (map (λ (p : ℕ × Rect). p.0) (cons_option (option_map (λ r. (v, r)) o) rest)) ≤ one_if (u == v) + times u (map (λ p. p.0) rest)
listed_or u v (Some r) rest = omega (arith, sum_by-cons (λ x. one_if (u == x)) v (map (λ (p : ℕ × Rect). p.0) rest))
listed_or u v None rest = omega arith

-- some of the views, each with its rectangle
listed_some : (u : ℕ) (g : ℕ → Option Rect) (vs : List ℕ) → times u (map (λ (p : ℕ × Rect). p.0) (filter_map (λ v. option_map (λ r. (v, r)) (g v)) vs)) ≤ times u vs
listed_some u g [] = omega arith
listed_some u g (v ∷ vs) = omega (
  arith,
  listed_or u v (g v) (filter_map (λ v. option_map (λ r. (v, r)) (g v)) vs),
  listed_some u g vs,
  sum_by-cons (λ x. one_if (u == x)) v vs,
)

listed_once : (u : ℕ) (tree : Tree) (session : List Point) → IsRooted tree → times u (map (λ p. p.0) (listed_views tree session)) ≤ 1
unfolding listed_views
listed_once u tree session h = omega (arith, listed_some u (rect_in tree session) (preorder tree), preorder_once tree u h)

listing_by : (u : ℕ) (s : State) (w : ℕ) (o : Option Point) (t : Option Tree) → ((tree : Tree) → t ≡ Some tree → IsRooted tree) → times u (map (λ p. p.0) (unwrap_or (with_both (λ corner tree. Some (listed_views tree (session_of corner (dirty_of s w)))) o t) [])) ≤ 1
listing_by u s w (Some corner) (Some tree) h = listed_once u tree (session_of corner (dirty_of s w)) (h tree refl)
listing_by u s w (Some corner) None h = omega arith
listing_by u s w None t h = omega arith

-- an update lists each view once at most
pub listing_once : (u : ℕ) (s : State) (w : ℕ) → AreRooted s.desk.pointing.trees → times u (map (λ p. p.0) (listing_of s w)) ≤ 1
unfolding listing_of
listing_once u s w rooted = listing_by u s w (corner_at s w) (tree_at s w) (λ tree read. rooted w tree read)

-- ---- what Draw bodies cost

sum_flat : {X Y : Type 0} (f : Y → ℕ) (g : X → List Y) (xs : List X) → sum_by f (flat_map g xs) ≡ sum_by (λ x. sum_by f (g x)) xs
sum_flat f g [] = refl
sum_flat f g (x ∷ xs) = omega (arith, sum_by-append f (g x) (flat_map g xs), sum_flat f g xs, sum_by-cons (λ y. sum_by f (g y)) x xs)

sum_both : {X : Type 0} (f g : X → ℕ) (xs : List X) → sum_by (λ x. f x + g x) xs ≡ sum_by f xs + sum_by g xs
sum_both f g [] = refl
sum_both f g (x ∷ xs) = omega (arith, sum_both f g xs, sum_by-cons f x xs, sum_by-cons g x xs, sum_by-cons (λ y. f y + g y) x xs)

sum_none : {X : Type 0} (f : X → ℕ) (xs : List X) → ((x : X) → f x ≡ 0) → sum_by f xs ≡ 0
sum_none f [] h = refl
sum_none f (x ∷ xs) h = omega (arith, sum_none f xs h, sum_by-cons f x xs, h x)

none_by : (u cost v : ℕ) (vs : List ℕ) (b : Bool) → (u == v) ≡ b → times u (v ∷ vs) ≡ 0 → (times u vs ≡ 0 → sum_by (λ x. if u == x then cost else 0) vs ≡ 0) → sum_by (λ x. if u == x then cost else 0) (v ∷ vs) ≡ 0
none_by u cost v vs true e h later =
    let is : one_if (u == v) ≡ 1 = ap one_if e in
    absurd (omega (arith, is, sum_by-cons (λ x. one_if (u == x)) v vs))
none_by u cost v vs false e h later =
    let is : one_if (u == v) ≡ 0 = ap one_if e in
    let now : (if u == v then cost else 0) ≡ 0 = rw e refl in
    let rest : times u vs ≡ 0 = omega (arith, is, sum_by-cons (λ x. one_if (u == x)) v vs) in
    omega (arith, sum_by-cons (λ x. if u == x then cost else 0) v vs, now, later rest)

-- a number that isn't in the list
none_of : (u cost : ℕ) (vs : List ℕ) → times u vs ≡ 0 → sum_by (λ v. if u == v then cost else 0) vs ≡ 0
none_of u cost [] h = refl
none_of u cost (v ∷ vs) h = none_by u cost v vs (u == v) refl h (none_of u cost vs)

one_by : (u cost v : ℕ) (vs : List ℕ) (b : Bool) → (u == v) ≡ b → times u (v ∷ vs) ≤ 1 → (times u vs ≤ 1 → sum_by (λ x. if u == x then cost else 0) vs ≤ cost) → sum_by (λ x. if u == x then cost else 0) (v ∷ vs) ≤ cost
one_by u cost v vs true e h later =
    let is : one_if (u == v) ≡ 1 = ap one_if e in
    let now : (if u == v then cost else 0) ≡ cost = rw e refl in
    let rest : times u vs ≡ 0 = omega (arith, is, sum_by-cons (λ x. one_if (u == x)) v vs) in
    omega (arith, sum_by-cons (λ x. if u == x then cost else 0) v vs, now, none_of u cost vs rest)
one_by u cost v vs false e h later =
    let is : one_if (u == v) ≡ 0 = ap one_if e in
    let now : (if u == v then cost else 0) ≡ 0 = rw e refl in
    let rest : times u vs ≤ 1 = omega (arith, is, sum_by-cons (λ x. one_if (u == x)) v vs) in
    omega (arith, sum_by-cons (λ x. if u == x then cost else 0) v vs, now, later rest)

-- ... and one that is there once
one_of : (u cost : ℕ) (vs : List ℕ) → times u vs ≤ 1 → sum_by (λ v. if u == v then cost else 0) vs ≤ cost
one_of u cost [] h = omega arith
one_of u cost (v ∷ vs) h = one_by u cost v vs (u == v) refl h (one_of u cost vs)

picked : (b c : Bool) (line : DrawLine) (o : Option DrawLine) → sum_by draw_cost (draw_steps (cond (b && c) (Some line) o)) ≤ (if b && c then sum_by draw_cost line.program else 0) + sum_by draw_cost (draw_steps o)
picked true true line o = omega arith
picked true false line o = omega arith
picked false c line o = omega arith

picked_once : (b : Bool) (u cost : ℕ) (vs : List ℕ) → times u vs ≤ 1 → sum_by (λ v. if b && (u == v) then cost else 0) vs ≤ (if b then cost else 0)
picked_once true u cost vs h = one_of u cost vs h
picked_once false u cost vs h = omega (arith, sum_none (λ (v : ℕ). 0) vs (λ v. refl))

kept : (b : Bool) (line : DrawLine) (rest : List DrawLine) → sum_by draw_cost (flat_map (λ x. x.program) (cond b (line ∷ rest) rest)) ≡ (if b then sum_by draw_cost line.program else 0) + sum_by draw_cost (flat_map (λ x. x.program) rest)
kept true line rest = sum_by-append draw_cost line.program (flat_map (λ x. x.program) rest)
kept false line rest = omega arith

-- the lines' bodies of these views of a window
bodies_within : (w : ℕ) (vs : List ℕ) (lines : List DrawLine) → ((u : ℕ) → times u vs ≤ 1) → sum_by (λ v. sum_by draw_cost (draw_steps (find (λ line. line.window == w && line.view == v) lines))) vs ≤ sum_by draw_cost (flat_map (λ line. line.program) (filter (λ line. line.window == w) lines))
bodies_within w vs [] once = omega (arith, sum_none (λ (v : ℕ). 0) vs (λ v. refl))
bodies_within w vs (line ∷ lines) once = omega (
  arith,
  sum_by-le-sum_by
      (λ v. sum_by draw_cost (draw_steps (find (λ x. x.window == w && x.view == v) (line ∷ lines))))
      (λ v. (if line.window == w && line.view == v then sum_by draw_cost line.program else 0) + sum_by draw_cost (draw_steps (find (λ x. x.window == w && x.view == v) lines)))
      vs
      (λ v. picked (line.window == w) (line.view == v) line (find (λ x. x.window == w && x.view == v) lines)),
  sum_both (λ v. if line.window == w && line.view == v then sum_by draw_cost line.program else 0) (λ v. sum_by draw_cost (draw_steps (find (λ x. x.window == w && x.view == v) lines))) vs,
  picked_once (line.window == w) line.view (sum_by draw_cost line.program) vs (once line.view),
  kept (line.window == w) line (filter (λ x. x.window == w) lines),
  bodies_within w vs lines once,
)

update_within : (d : Declared) (w : ℕ) (vs : List ℕ) → ((u : ℕ) → times u vs ≤ 1) → sum_by draw_cost (update_program d w vs) ≤ draws_cost d w
unfolding draw_program
update_within d w vs once = omega (arith, sum_flat draw_cost (draw_program d w) vs, bodies_within w vs d.draws once)

-- the Draw bodies of the listed views
pub listing_cost : (d : Declared) (s : State) (w : ℕ) → AreRooted s.desk.pointing.trees → sum_by draw_cost (update_program d w (map (λ p. p.0) (listing_of s w))) ≤ draws_cost d w
listing_cost d s w rooted = update_within d w (map (λ p. p.0) (listing_of s w)) (λ u. listing_once u s w rooted)
