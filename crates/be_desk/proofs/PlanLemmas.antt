-- What the panes of a change tell of the screen, and that each pixel afterwards has a view and a colour.
use Rattle.std.specs.Prelude.{ℤ, pos, ◌+ℤ◌, ◌-ℤ◌, ◌==◌, ◌&&◌, slice_get, option_and_then, IsSome, map, find}
use Rattle.std.specs.List.{Contains, list_any}
use Rattle.std.specs.Option.{option_map}
use Rattle.std.proofs.Common.{◌≡◌, ℕ, zero, suc, ◌<◌, Bool, true, false, cond, List, [], ◌∷◌, length, get_or, Option, Some, None, inl, inr, eq-eqb, refl, sym, ap, ◌∙◌, subst, arith}
use Rattle.std.proofs.lemmas.Bool.{cases_eq, eqb-true, false≢true, or_parts, and_from}
use Rattle.std.proofs.lemmas.Int.{ints}
use Rattle.std.proofs.lemmas.List.Elements.{Contains-get_or}
use Rattle.std.proofs.lemmas.Option.{same_Some, slice_get-map, slice_get_within, slice_get-get_or, slice_get_read}
use Rattle.be_facts.proofs.Truths.{and_both}
use Rattle.be_color.specs.declared.colors.Color.{Color}
use Rattle.be_geom.specs.Numbers.{is_number}
use Rattle.be_geom.specs.Rects.{rect_has}
use Rattle.be_geom.specs.declared.change.Change.{Change}
use Rattle.be_geom.specs.declared.point.Point.{Point}
use Rattle.be_geom.specs.declared.rect.Rect.{Rect}
use Rattle.be_geom.proofs.Between.{is_between}
use Rattle.be_geom.proofs.Numbered.{number_is}
use Rattle.be_input.specs.Pointing.{corner_of}
use Rattle.be_pane.specs.declared.pane.Pane.{Pane}
use Rattle.be_region.specs.Regions.{region_has}
use Rattle.be_span.specs.declared.Cell.{Cell}
use Rattle.be_stack.specs.Owner.{is_on_screen, owner_at, covers, covers_pixel}
use Rattle.be_stack.specs.Windows.{Windows, passes, is_shown_window}
use Rattle.be_stack.specs.declared.window.Window.{Window}
use Rattle.be_stack.proofs.VisibleLemmas.{missed}
use Rattle.be_views.specs.Pixels.{view_at, view_below, descended, last_child_at}
use Rattle.be_views.specs.Trees.{Tree, View, left_top}
use Rattle.be_views.proofs.ChildLemmas.{in_frame}
use Rattle.be_views.proofs.FrontLemmas.{child_is}
use Rattle.be_views.proofs.TreeLemmas.{root_of}
use Rattle.be_desk.specs.Affected.{HasAltered}
use Rattle.be_desk.specs.Changes.{Desk, owns}
use Rattle.be_desk.specs.Desks.{IsPaired, at_origin}
use Rattle.be_desk.specs.Plans.{ArePanesOf, IsScreenOf}
use Rattle.be_desk.specs.Renewals.{AreColored, AreUnder, color_at, is_in_some, view_from}
use Rattle.be_desk.specs.Renewed.{IsRenewalIn}
use Rattle.be_desk.specs.declared.renewal.Renewal.{Renewal}

-- ---- panes by the numbers of their windows

abbrev numbers : List Pane → List ℕ
numbers panes = map (λ pane. pane.window) panes

pub listed_name : (panes : List Pane) (k : ℕ) (pane : Pane) → slice_get panes k ≡ Some pane → Contains (map (λ p. p.window) panes) pane.window
listed_name panes k pane got =
    let e : slice_get (numbers panes) k ≡ Some pane.window = slice_get-map (λ (p : Pane). p.window) panes k ∙ ap (option_map (λ (p : Pane). p.window)) got in
    let within = slice_get_within (numbers panes) k pane.window e in
    let g : get_or (numbers panes) k 0 ≡ pane.window = same_Some (get_or (numbers panes) k 0) pane.window (sym (slice_get-get_or (numbers panes) k 0 within) ∙ e) in
    subst (λ (n : ℕ). Contains (numbers panes) n) g (Contains-get_or (numbers panes) k 0 within)

found_pane : (o : Option Pane) (v : ℕ) → option_map (λ (p : Pane). p.window) o ≡ Some v → (pane : Pane) × ((o ≡ Some pane) × (pane.window ≡ v))
found_pane (Some pane) v e = (pane, (refl, same_Some pane.window v e))
found_pane None v e = cc

named_pane : (panes : List Pane) (v : ℕ) → Contains (numbers panes) v → (k : ℕ) × ((pane : Pane) × ((slice_get panes k ≡ Some pane) × (pane.window ≡ v)))
named_pane panes v named =
    let e : slice_get (numbers panes) named.0 ≡ Some v = slice_get_read (numbers panes) (length (numbers panes)) named.0 v refl named.1 (sym named.2) in
    (named.0, found_pane (slice_get panes named.0) v (sym (slice_get-map (λ (p : Pane). p.window) panes named.0) ∙ e))

none_at : {A : Type 0} (p : A → Bool) (xs : List A) (k : ℕ) (x : A) → list_any p xs ≡ false → slice_get xs k ≡ Some x → p x ≡ false
none_at p [] k x none got = cc
none_at p (y ∷ ys) zero x none got = ap p (sym (same_Some y x got)) ∙ (or_parts (p y) (list_any p ys) none).0
none_at p (y ∷ ys) (suc k) x none got = none_at p ys k x (or_parts (p y) (list_any p ys) none).1 got

-- ---- the screen below

differ : (b : Bool) (u v : ℕ) → (u == v) ≡ b → (v ≡ u → ⊥) → b ≡ false
differ true u v e other = absurd (other (sym (eqb-true u v e)))
differ false u v e other = refl

-- a pixel of the window afterwards that no pane has was the desktop's
nobody : (before after : Desk) (panes : List Pane) (k : ℕ) (pane : Pane) (x y : ℤ) → ArePanesOf before panes → HasAltered before.windows after.windows (numbers panes) → slice_get panes k ≡ Some pane → owner_at after.windows x y ≡ Some pane.window → is_in_some panes x y ≡ false → (o : Option ℕ) → owner_at before.windows x y ≡ o → owner_at before.windows x y ≡ None
nobody before after panes k pane x y of_panes affected got owner none None e = e
nobody before after panes k pane x y of_panes affected got owner none (Some v) e =
    let here : owns before v x y ≡ true = ap (is_number v) e ∙ eq-eqb v v refl in
    let named : Contains (numbers panes) v =
    elim (cases_eq v pane.window) [
      | inl same ↦ subst (λ (n : ℕ). Contains (numbers panes) n) (sym same) (listed_name panes k pane got)
      | inr other ↦ affected v (λ same. false≢true (sym (ap (is_number v) owner ∙ differ (pane.window == v) pane.window v refl other) ∙ sym (same x y) ∙ here))
    ] in
    let found = named_pane panes v named in
    let there = (of_panes found.0 found.1.0 found.1.1.0).pixels x y ∙ ap (λ n. owns before n x y) found.1.1.1 ∙ here in
    absurd (false≢true (sym (none_at (λ (p : Pane). region_has p.spans.rects x y) panes found.0 found.1.0 none found.1.1.0) ∙ there))

pub under : (before after : Desk) (panes : List Pane) (k : ℕ) (pane : Pane) (region : List Rect) (cells : ℤ → ℤ → Cell) → ArePanesOf before panes → HasAltered before.windows after.windows (map (λ p. p.window) panes) → slice_get panes k ≡ Some pane → ((x y : ℤ) → region_has region x y ≡ owns after pane.window x y) → IsScreenOf cells before panes → AreUnder panes region cells
under before after panes k pane region cells of_panes affected got visible screen = record {
  shown = λ i d within.
      let at = slice_get-get_or panes i d within in
      λ x y has. screen.windows i (get_or panes i d) at x y (sym ((of_panes i (get_or panes i d) at).pixels x y) ∙ has);
  desktop = λ x y has none. screen.desktop x y (nobody before after panes k pane x y of_panes affected got (number_is pane.window (owner_at after.windows x y) (sym (visible x y) ∙ has)) none (owner_at before.windows x y) refl);
}

-- ---- views

found_there : (n : ℕ) (tree : Tree) (u : ℕ) (x y : ℤ) → ((v : ℕ) (z t : ℤ) → v < length tree → view_below n tree v z t < length tree) → u < length tree → (found : Option (ℕ × View)) → last_child_at tree u x y ≡ found → descended (view_below n tree) u x y found < length tree
found_there n tree u x y below here None e = here
found_there n tree u x y below here (Some child) e =
    below child.0 (x -ℤ child.1.frame.left) (y -ℤ child.1.frame.top) (slice_get_within tree child.0 child.1 (child_is tree u x y child e).got)

pub below_there : (n : ℕ) (tree : Tree) (u : ℕ) (x y : ℤ) → u < length tree → view_below n tree u x y < length tree
below_there zero tree u x y here = here
below_there (suc n) tree u x y here =
    found_there n tree u x y (λ v z t l. below_there n tree v z t l) here (last_child_at tree u x y) refl

view_there : (tree : Tree) (root : View) (x y : ℤ) → slice_get tree 0 ≡ Some root → rect_has root.frame x y ≡ true → (v : ℕ) × ((v < length tree) × (view_at tree x y ≡ Some v))
unfolding view_at
view_there tree root x y got has =
    let v = view_below (length tree) tree 0 x y in
    (v, (below_there (length tree) tree 0 x y (slice_get_within tree 0 root got), ap (option_and_then (λ (r : View). cond (rect_has r.frame x y) (Some v) None)) got ∙ ap (λ b. cond b (Some v) None) has))

-- a pixel of a frame is in the frame as it is seen from its left top
at_origin_has : (r : Rect) (x y : ℤ) → rect_has r x y ≡ true → rect_has (at_origin r) (x -ℤ r.left) (y -ℤ r.top) ≡ true
at_origin_has r x y has =
    let inside = in_frame r x y has in
    let l = inside.0 in
    let h = inside.1 in
    let t = inside.2 in
    let b = inside.3 in
    and_from _ _ (is_between (r.left +ℤ (pos 0 -ℤ r.left)) (x -ℤ r.left) (r.right +ℤ (pos 0 -ℤ r.left)) (omega (arith, ints)) (omega (arith, ints)))
    (is_between (r.top +ℤ (pos 0 -ℤ r.top)) (y -ℤ r.top) (r.bottom +ℤ (pos 0 -ℤ r.top)) (omega (arith, ints)) (omega (arith, ints)))

-- ---- owned pixels

find_passes : (b : Bool) (p : ℕ → Bool) (u : ℕ) (xs : List ℕ) → p u ≡ b → is_number u (find p xs) ≡ true → b ≡ true
find_passes true p u xs e owned = refl
find_passes false p u xs e owned = sym (missed p u xs e) ∙ owned

covered_owned : (b : Bool) (p : ℕ → Bool) (u : ℕ) (xs : List ℕ) → is_number u (cond b (find p xs) None) ≡ true → p u ≡ true
covered_owned true p u xs owned = find_passes (p u) p u xs refl owned
covered_owned false p u xs owned = cc

owned_covered : (s : Windows) (u : ℕ) (x y : ℤ) → is_number u (owner_at s x y) ≡ true → passes (covers_pixel x y) (slice_get s.windows u) ≡ true
unfolding owner_at
owned_covered s u x y owned = covered_owned (is_on_screen s.width x && is_on_screen s.height y) (covers s.windows x y) u s.order owned

covering : (o : Option Window) (x y : ℤ) → passes (covers_pixel x y) o ≡ true → (window : Window) × ((o ≡ Some window) × (rect_has window.frame x y ≡ true))
covering (Some window) x y e = (window, (refl, (and_both (is_shown_window window) (rect_has window.frame x y) e).1))
covering None x y e = cc

-- the window that has the pixel
pub owned_in : (s : Windows) (u : ℕ) (x y : ℤ) → is_number u (owner_at s x y) ≡ true → (window : Window) × ((slice_get s.windows u ≡ Some window) × (rect_has window.frame x y ≡ true))
owned_in s u x y owned = covering (slice_get s.windows u) x y (owned_covered s u x y owned)

some_color : (o : Option Color) (c : Color) → o ≡ Some c → IsSome o
some_color (Some d) c e = refl
some_color None c e = cc

got_color : (colors : List Color) (v : ℕ) → v < length colors → (c : Color) × (slice_get colors v ≡ Some c)
got_color [] v h = absurd (omega arith)
got_color (c ∷ cs) zero h = (c, refl)
got_color (c ∷ cs) (suc v) h = got_color cs v (omega arith)

-- the view at an owned pixel
pub owned_view : (after : Desk) (u : ℕ) (place : Point) (tree : Tree) (x y : ℤ) → IsPaired after → 0 < length tree → corner_of after.windows u ≡ Some place → slice_get after.pointing.trees u ≡ Some tree → owns after u x y ≡ true → (v : ℕ) × ((v < length tree) × (view_from tree place x y ≡ Some v))
owned_view after u place tree x y paired some corner views owned =
    let window = owned_in after.windows u x y owned in
    let root = root_of tree some in
    let is_root = paired.rooted u window.0 root.0 window.1.0 (ap (option_and_then (λ (t : Tree). slice_get t 0)) views ∙ root.1) in
    let at : left_top window.0.frame ≡ place = same_Some (left_top window.0.frame) place (sym (ap (option_map (λ (w : Window). left_top w.frame)) window.1.0) ∙ corner) in
    let has = ap (λ (r : Rect). rect_has r (x -ℤ window.0.frame.left) (y -ℤ window.0.frame.top)) is_root.frame ∙ at_origin_has window.0.frame x y window.1.1 in
    let view = view_there tree root.0 (x -ℤ window.0.frame.left) (y -ℤ window.0.frame.top) root.1 has in
    (view.0, (view.1.0, ap (λ (p : Point). view_from tree p x y) (sym at) ∙ view.1.1))

-- and its colour
pub are_colored : (after : Desk) (w : ℕ) (change : Change) (r : Renewal) (region : List Rect) → IsPaired after → 0 < length r.tree.now → IsRenewalIn after w change r → length r.pane.now.colors.items ≡ length r.tree.now → ((x y : ℤ) → region_has region x y ≡ owns after r.pane.now.window x y) → AreColored r region
are_colored after w change r region paired some renewal many visible x y has =
    let view = owned_view after r.pane.now.window r.place r.tree.now x y paired some renewal.place renewal.views (sym (visible x y) ∙ has) in
    let color = got_color r.pane.now.colors.items view.0 (omega arith) in
    some_color (color_at r x y) color.0 (ap (option_and_then (slice_get r.pane.now.colors.items)) view.1.1 ∙ color.1)
