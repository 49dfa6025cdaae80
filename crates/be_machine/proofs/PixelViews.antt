-- A pixel that a window owns has a cell, a view and a colour; one that it comes to own is marked.
use Rattle.std.proofs.Common.{◌≡◌, ℕ, suc, ◌+◌, ◌<◌, ◌≤◌, Bool, true, false, List, [], ◌∷◌, reverse, length, Option, Some, None, refl, sym, ap, subst, ◌∙◌, arith}
use Rattle.std.specs.Prelude.{ℤ, pos, ◌-ℤ◌, ◌&&◌, nat_lt, find, slice_get, option_map, option_and_then, if◌then◌else◌}
use Rattle.std.specs.List.{list_all}
use Rattle.std.proofs.lemmas.Bool.Decides.{nat_tests}
use Rattle.std.proofs.lemmas.Int.{ints}
use Rattle.std.proofs.lemmas.List.{reverse-append}
use Rattle.std.proofs.lemmas.Option.{slice_get_within}
use Rattle.be_facts.proofs.Numbers.{nat_lt_tells}
use Rattle.be_facts.proofs.Truths.{and_first, and_second}
use Rattle.be_color.specs.declared.colors.Color.{Color}
use Rattle.be_desk.specs.Changes.{Desk, view_here, color_of}
use Rattle.be_geom.specs.declared.point.Point.{Point}
use Rattle.be_geom.specs.declared.rect.Rect.{Rect}
use Rattle.be_geom.specs.Numbers.{is_number}
use Rattle.be_geom.specs.Places.{at_pixel, less}
use Rattle.be_geom.specs.Points.{between}
use Rattle.be_geom.specs.Rects.{rect_has}
use Rattle.be_input.specs.Pointing.{view_in, view_under}
use Rattle.be_stack.specs.declared.window.Window.{Window}
use Rattle.be_stack.specs.Owner.{is_on_screen, covers_pixel, covers, owner_at}
use Rattle.be_stack.specs.Windows.{Windows, is_shown_window, passes}
use Rattle.be_views.specs.Pixels.{last_child_at, descended, view_below, view_at}
use Rattle.be_views.specs.Resizing.{root_frame}
use Rattle.be_views.specs.Trees.{Tree, View, children_from, children_of, left_top}
use Rattle.be_views.proofs.RunLemmas.{view_in as at_root}
use Rattle.be_desk.proofs.PlanLemmas.{below_there}
use Rattle.be_machine.proofs.Fitted.{IsFit, AreFit}
use Rattle.be_machine.proofs.FittedSteps.{AreColored}
use Rattle.be_machine.proofs.Lists.{IsThere, there, all_append, all_find, find_passes}

-- ---- the window that owns a pixel

pub record IsCovered (windows : Windows) (w : ℕ) (x y : ℤ) : Type 0 where
  pub window : Window
  pub is : slice_get windows.windows w ≡ Some window
  pub inside : rect_has window.frame x y ≡ true
  pub column : is_on_screen windows.width x ≡ true
  pub row : is_on_screen windows.height y ≡ true

on_by : {P : Type 0} (a b : Bool) (o : Option ℕ) (w : ℕ) → (if a && b then o else None) ≡ Some w → (a ≡ true → b ≡ true → o ≡ Some w → P) → P
on_by true true o w e f = f refl refl e
on_by true false o w e f = cc
on_by false b o w e f = cc

covered_by : (windows : Windows) (w : ℕ) (x y : ℤ) (o : Option Window) → slice_get windows.windows w ≡ o → passes (covers_pixel x y) o ≡ true → is_on_screen windows.width x ≡ true → is_on_screen windows.height y ≡ true → IsCovered windows w x y
covered_by windows w x y (Some window) read e column row = record { window = window; is = read; inside = and_second (is_shown_window window) _ e; column = column; row = row }
covered_by windows w x y None read e column row = cc

pub covered : (windows : Windows) (w : ℕ) (x y : ℤ) → owner_at windows x y ≡ Some w → IsCovered windows w x y
unfolding owner_at
covered windows w x y e =
    on_by (is_on_screen windows.width x) (is_on_screen windows.height y) (find (covers windows.windows x y) windows.order) w e
    (λ column row found. covered_by windows w x y (slice_get windows.windows w) refl (find_passes (covers windows.windows x y) windows.order w found) column row)

-- ---- the view at it

all_reverse : {X : Type 0} (p : X → Bool) (xs : List X) → list_all p xs ≡ true → list_all p (reverse xs) ≡ true
all_reverse p [] h = refl
all_reverse p (x ∷ xs) h = ap (list_all p) (reverse-append (x ∷ []) xs) ∙ all_append p (reverse xs) (x ∷ []) (all_reverse p xs (and_second (p x) _ h)) (one_passes (p x) (and_first (p x) _ h))
  where
    one_passes : (b : Bool) → b ≡ true → (b && true) ≡ true
    one_passes true e = refl
    one_passes false e = e

children_below : (k n v : ℕ) (tree : Tree) → k + length tree ≤ n → list_all (λ (c : ℕ × View). nat_lt c.0 n) (children_from k v tree) ≡ true
children_below k n v [] le = refl
children_below k n v (view ∷ rest) le = child_by (is_number v view.parent) (children_below (suc k) n v rest (omega arith))
  where
    first_below : nat_lt k n ≡ true
    first_below = let lt : k < n = omega (arith, le) in grind (arith, nat_tests)

    child_by : (b : Bool) → list_all (λ (c : ℕ × View). nat_lt c.0 n) (children_from (suc k) v rest) ≡ true → list_all (λ (c : ℕ × View). nat_lt c.0 n) (if b then (k, view) ∷ children_from (suc k) v rest else children_from (suc k) v rest) ≡ true
    child_by true h = rw first_below h
    child_by false h = h

view_by : (steps : ℕ) (tree : Tree) (v : ℕ) (x y : ℤ) (o : Option (ℕ × View)) → last_child_at tree v x y ≡ o → v < length tree → ((u : ℕ) (a b : ℤ) → u < length tree → view_below steps tree u a b < length tree) → descended (view_below steps tree) v x y o < length tree
view_by steps tree v x y None e lt deeper = lt
view_by steps tree v x y (Some child) e lt deeper =
    let all : list_all (λ (c : ℕ × View). nat_lt c.0 (length tree)) (reverse (children_of tree v)) ≡ true = all_reverse (λ (c : ℕ × View). nat_lt c.0 (length tree)) (children_of tree v) (children_below 0 (length tree) v tree (omega arith)) in
    deeper child.0 _ _ (nat_lt_tells child.0 (length tree) (all_find (λ (c : ℕ × View). nat_lt c.0 (length tree)) (λ (c : ℕ × View). rect_has c.1.frame x y) (reverse (children_of tree v)) child all e))

seen_from : (low z high : ℤ) → between low z high ≡ true → between (pos 0) (z -ℤ low) (high -ℤ low) ≡ true
unfolding between
seen_from low z high h = grind (arith, ints)

-- a rectangle as seen from its left top
within_root : (r : Rect) (x y : ℤ) → rect_has r x y ≡ true → rect_has (root_frame (r.right -ℤ r.left) (r.bottom -ℤ r.top)) (x -ℤ r.left) (y -ℤ r.top) ≡ true
within_root r x y e =
    two_hold (between (pos 0) (x -ℤ r.left) (r.right -ℤ r.left)) _ (seen_from r.left x r.right (and_first (between r.left x r.right) _ e)) (seen_from r.top y r.bottom (and_second (between r.left x r.right) _ e))
  where
    two_hold : (a b : Bool) → a ≡ true → b ≡ true → (a && b) ≡ true
    two_hold true b h k = k
    two_hold false b h k = h

some_view : (tree : Tree) (root : View) → slice_get tree 0 ≡ Some root → 0 < length tree
some_view [] root e = cc
some_view (view ∷ rest) root e = omega arith

-- the view, and that it is one of the tree's
pub record HasView (desk : Desk) (w : ℕ) (x y : ℤ) : Type 0 where
  pub tree : Tree
  pub there : slice_get desk.pointing.trees w ≡ Some tree
  pub view : ℕ
  pub is : view_here desk w x y ≡ Some view
  pub below : view < length tree

view_under_is : (desk : Desk) (w : ℕ) (x y : ℤ) (window : Window) (tree : Tree) → slice_get desk.windows.windows w ≡ Some window → slice_get desk.pointing.trees w ≡ Some tree → view_here desk w x y ≡ view_at tree (x -ℤ window.frame.left) (y -ℤ window.frame.top)
unfolding view_under
view_under_is desk w x y window tree read there =
    ap (λ (o : Option Window). option_and_then (λ corner. view_in desk.pointing.trees w (less (at_pixel x y) corner)) (corner_in o)) read
    ∙ ap (option_and_then (λ (tree : Tree). view_at tree (x -ℤ window.frame.left) (y -ℤ window.frame.top))) there
  where
    corner_in : Option Window → Option Point
    corner_in o = option_map (λ (window : Window). left_top window.frame) o

pub view_there : (desk : Desk) (w : ℕ) (x y : ℤ) → length desk.pointing.trees ≡ length desk.windows.windows → AreFit desk.windows.windows desk.pointing.trees → owner_at desk.windows x y ≡ Some w → HasView desk w x y
view_there desk w x y many fit owner =
    let is : IsCovered desk.windows w x y = covered desk.windows w x y owner in
    let inside : w < length desk.windows.windows = slice_get_within desk.windows.windows w is.window is.is in
    let tree : IsThere desk.pointing.trees w = there desk.pointing.trees w (omega (arith, inside, many)) in
    let root : IsFit is.window tree.element = fit w is.window tree.element is.is tree.read in
    let fits : rect_has root.root.frame (x -ℤ is.window.frame.left) (y -ℤ is.window.frame.top) ≡ true = subst (λ (r : Rect). rect_has r (x -ℤ is.window.frame.left) (y -ℤ is.window.frame.top) ≡ true) (sym root.frame) (within_root is.window.frame x y is.inside) in
    record {
      tree = tree.element;
      there = tree.read;
      view = view_below (length tree.element) tree.element 0 (x -ℤ is.window.frame.left) (y -ℤ is.window.frame.top);
      is = view_under_is desk w x y is.window tree.element is.is tree.read ∙ at_root tree.element root.root (x -ℤ is.window.frame.left) (y -ℤ is.window.frame.top) root.first fits;
      below = below_there (length tree.element) tree.element 0 (x -ℤ is.window.frame.left) (y -ℤ is.window.frame.top) (some_view tree.element root.root root.first);
    }

-- ---- its colour

color_in : (colors : List (List Color)) (trees : List Tree) (w v : ℕ) (tree : Tree) → length colors ≡ length trees → AreColored colors trees → slice_get trees w ≡ Some tree → v < length tree → (color : Color) × (color_of colors w (Some v) ≡ Some color)
color_in colors trees w v tree many colored at_tree lt =
    let inside : w < length trees = slice_get_within trees w tree at_tree in
    let own : IsThere colors w = there colors w (omega (arith, inside, many)) in
    let as_many : length own.element ≡ length tree = colored w own.element tree own.read at_tree in
    let color : IsThere own.element v = there own.element v (omega (arith, lt, as_many)) in
    (color.element, ap (option_and_then (λ own. slice_get own v)) own.read ∙ color.read)

pub view_colored : (desk : Desk) (colors : List (List Color)) (w : ℕ) (x y : ℤ) → length colors ≡ length desk.pointing.trees → AreColored colors desk.pointing.trees → HasView desk w x y → (color : Color) × (color_of colors w (view_here desk w x y) ≡ Some color)
view_colored desk colors w x y many colored at =
    let color = color_in colors desk.pointing.trees w at.view at.tree many colored at.there at.below in
    (color.0, ap (color_of colors w) at.is ∙ color.1)
