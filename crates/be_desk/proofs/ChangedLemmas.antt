-- What a pane tells of its pixels after a change is what the change rule says of them.
use Rattle.std.specs.Prelude.{ℤ, ◌-ℤ◌, ◌==◌, slice_get, option_and_then}
use Rattle.std.proofs.Common.{◌≡◌, ℕ, Bool, true, false, cond, ◌&&◌, List, Option, Some, None, refl, sym, ap, ◌∙◌, subst}
use Rattle.std.proofs.lemmas.Bool.{eqb-true}
use Rattle.be_facts.proofs.Truths.{and_first}
use Rattle.be_geom.specs.declared.change.Change.{Change}
use Rattle.be_geom.specs.declared.point.Point.{Point}
use Rattle.be_geom.specs.Places.{less}
use Rattle.be_geom.proofs.Numbered.{number_is}
use Rattle.be_color.specs.declared.colors.Color.{Color}
use Rattle.be_input.specs.Pointing.{corner_of, view_under}
use Rattle.be_span.specs.Cells.{Lookup, exposed_as}
use Rattle.be_span.specs.Spans.{cell_in}
use Rattle.be_span.specs.declared.Cell.{Cell}
use Rattle.be_stack.specs.Owner.{owner_at}
use Rattle.be_views.specs.Trees.{Tree, place_of}
use Rattle.be_desk.specs.Changes as machine
use Rattle.be_desk.specs.Changes.{Desk, owns, view_here, color_of, exposed_at, place_here, is_same_place, brought, way_of, or_exposed, own_cell, cell_of, changed_cell, motion_of}
use Rattle.be_desk.specs.Plans.{IsPaneOf, LooksUp}
use Rattle.be_desk.specs.Renewals.{view_from, is_kept_view, shows_same_spot, owned, is_kept_by, brought_by, color_at, renewed_cell}
use Rattle.be_desk.specs.Renewed.{IsRenewalIn, motion_by}
use Rattle.be_desk.specs.declared.renewal.Motion.{Motion}
use Rattle.be_desk.specs.declared.renewal.Motion.TheVariants.{Still, Moving, Resizing}
use Rattle.be_desk.specs.declared.renewal.Renewal.{Renewal}

-- ---- views and colours

-- the view at a pixel of the screen
pub view_seen : (desk : Desk) (u : ℕ) (corner : Point) (tree : Tree) (x y : ℤ) → corner_of desk.windows u ≡ Some corner → slice_get desk.pointing.trees u ≡ Some tree → view_here desk u x y ≡ view_from tree corner x y
unfolding view_under
view_seen desk u corner tree x y place views =
    ap (option_and_then (λ p. option_and_then (λ t. machine_view t p) (slice_get desk.pointing.trees u))) place
    ∙ ap (option_and_then (λ t. machine_view t corner)) views
  where
    machine_view : Tree → Point → Option ℕ
    machine_view t p = view_from t p x y

color_seen : (colors : List (List Color)) (u : ℕ) (own : List Color) (v : Option ℕ) → slice_get colors u ≡ Some own → color_of colors u v ≡ option_and_then (slice_get own) v
color_seen colors u own (Some v) e = ap (option_and_then (λ l. slice_get l v)) e
color_seen colors u own None e = refl

exposed_seen : (after : Desk) (colors : List (List Color)) (r : Renewal) (x y : ℤ) (c : Cell) → corner_of after.windows r.pane.now.window ≡ Some r.place → slice_get after.pointing.trees r.pane.now.window ≡ Some r.tree.now → slice_get colors r.pane.now.window ≡ Some r.pane.now.colors.items → exposed_at after colors r.pane.now.window x y c ≡ exposed_as (color_at r x y) c
exposed_seen after colors r x y c place views colored =
    ap (λ v. exposed_as (color_of colors r.pane.now.window v) c) (view_seen after r.pane.now.window r.place r.tree.now x y place views)
    ∙ ap (λ o. exposed_as o c) (color_seen colors r.pane.now.window r.pane.now.colors.items (view_from r.tree.now r.place x y) colored)

-- ---- what the window keeps

place_seen : (desk : Desk) (u v : ℕ) (tree : Tree) → slice_get desk.pointing.trees u ≡ Some tree → place_here desk u v ≡ place_of tree v
place_seen desk u v tree e = ap (option_and_then (λ t. place_of t v)) e

kept_view : (before after : Desk) (u : ℕ) (old new : Tree) (v t : Option ℕ) → slice_get before.pointing.trees u ≡ Some old → slice_get after.pointing.trees u ≡ Some new → machine.is_kept_view before after u v t ≡ is_kept_view old new v t
kept_view before after u old new (Some v) (Some t) e f =
    ap (λ p. v == t && is_same_place p (place_here after u t)) (place_seen before u v old e)
    ∙ ap (λ p. v == t && is_same_place (place_of old v) p) (place_seen after u t new f)
kept_view before after u old new (Some v) None e f = refl
kept_view before after u old new None t e f = refl

kept_spot : (before after : Desk) (r : Renewal) (x y : ℤ) → IsPaneOf before r.pane.now → corner_of after.windows r.pane.now.window ≡ Some r.place → slice_get after.pointing.trees r.pane.now.window ≡ Some r.tree.now → machine.is_kept_view before after r.pane.now.window (view_here before r.pane.now.window x y) (view_here after r.pane.now.window x y) ≡ shows_same_spot r x y
kept_spot before after r x y of_pane place views =
    let u : ℕ = r.pane.now.window in
    ap (λ v. machine.is_kept_view before after u v (view_here after u x y)) (view_seen before u r.pane.now.place r.pane.now.tree x y of_pane.place of_pane.views)
    ∙ ap (λ v. machine.is_kept_view before after u (view_from r.pane.now.tree r.pane.now.place x y) v) (view_seen after u r.place r.tree.now x y place views)
    ∙ kept_view before after u r.pane.now.tree r.tree.now (view_from r.pane.now.tree r.pane.now.place x y) (view_from r.tree.now r.place x y) of_pane.views views

-- ---- cells

-- a pixel that the window owned has its cell
abbrev Shown : Desk → Renewal → (ℤ → ℤ → Cell) → Type 0
Shown before r cells = (x y : ℤ) → owns before r.pane.now.window x y ≡ true → cell_in r.pane.now.spans x y ≡ Some (cells x y)

-- the cell after a change in which the window does so
abbrev renewed_by : Motion → Renewal → ℤ → ℤ → Cell → Cell
renewed_by m r x y c = or_exposed (cond (is_kept_by m r x y) (brought_by m r.pane.now.spans x y) None) (exposed_as (color_at r x y) c)

-- a kept pixel has the cell that was there
kept_cell : (b : Bool) (found : Option Cell) (c d : Cell) → (b ≡ true → found ≡ Some c) → or_exposed (cond b found None) d ≡ cond b c d
kept_cell true found c d e = ap (λ o. or_exposed o d) (e refl)
kept_cell false found c d e = refl

same_found : (b : Bool) (one other : Option Cell) → (b ≡ true → one ≡ other) → cond b one None ≡ cond b other None
same_found true one other e = e refl
same_found false one other e = refl

-- pixels that stay
still_cell : (before after : Desk) (colors : List (List Color)) (r : Renewal) (old : Lookup) (cells : ℤ → ℤ → Cell) (x y : ℤ) → IsPaneOf before r.pane.now → Shown before r cells → exposed_at after colors r.pane.now.window x y (cells x y) ≡ exposed_as (color_at r x y) (cells x y) → own_cell before after colors r.pane.now.window machine.still old x y (cells x y) ≡ renewed_by Still r x y (cells x y)
still_cell before after colors r old cells x y of_pane shown exposed =
    let u : ℕ = r.pane.now.window in
    ap (λ b. cond b (cells x y) (exposed_at after colors u x y (cells x y))) (sym (of_pane.pixels x y))
    ∙ ap (λ d. cond (owned r x y) (cells x y) d) exposed
    ∙ sym (kept_cell (owned r x y) (cell_in r.pane.now.spans x y) (cells x y) _ (λ h. shown x y (sym (of_pane.pixels x y) ∙ h)))

-- pixels that a resize keeps
resized_cell : (before after : Desk) (colors : List (List Color)) (r : Renewal) (old : Lookup) (cells : ℤ → ℤ → Cell) (x y : ℤ) → IsPaneOf before r.pane.now → Shown before r cells → exposed_at after colors r.pane.now.window x y (cells x y) ≡ exposed_as (color_at r x y) (cells x y) → machine.is_kept_view before after r.pane.now.window (view_here before r.pane.now.window x y) (view_here after r.pane.now.window x y) ≡ shows_same_spot r x y → own_cell before after colors r.pane.now.window machine.resizing old x y (cells x y) ≡ renewed_by Resizing r x y (cells x y)
resized_cell before after colors r old cells x y of_pane shown exposed spot =
    let u : ℕ = r.pane.now.window in
    ap (λ b. cond (b && machine.is_kept_view before after u (view_here before u x y) (view_here after u x y)) (cells x y) (exposed_at after colors u x y (cells x y))) (sym (of_pane.pixels x y))
    ∙ ap (λ b. cond (owned r x y && b) (cells x y) (exposed_at after colors u x y (cells x y))) spot
    ∙ ap (λ d. cond (owned r x y && shows_same_spot r x y) (cells x y) d) exposed
    ∙ sym (kept_cell (owned r x y && shows_same_spot r x y) (cell_in r.pane.now.spans x y) (cells x y) _ (λ h. shown x y (sym (of_pane.pixels x y) ∙ and_first (owned r x y) (shows_same_spot r x y) h)))

-- pixels that a move brings
moved_cell : (before after : Desk) (colors : List (List Color)) (r : Renewal) (old : Lookup) (cells : ℤ → ℤ → Cell) (x y : ℤ) → IsPaneOf before r.pane.now → Shown before r cells → LooksUp old before r.pane.now.window cells → corner_of after.windows r.pane.now.window ≡ Some r.place → exposed_at after colors r.pane.now.window x y (cells x y) ≡ exposed_as (color_at r x y) (cells x y) → own_cell before after colors r.pane.now.window machine.moving old x y (cells x y) ≡ renewed_by (Moving (r.place.x -ℤ r.pane.now.place.x) (r.place.y -ℤ r.pane.now.place.y)) r x y (cells x y)
moved_cell before after colors r old cells x y of_pane shown looks place exposed =
    let u : ℕ = r.pane.now.window in
    let left : ℤ = x -ℤ (r.place.x -ℤ r.pane.now.place.x) in
    let top : ℤ = y -ℤ (r.place.y -ℤ r.pane.now.place.y) in
    let d : Cell = exposed_at after colors u x y (cells x y) in
    let way : way_of before after u ≡ Some (less r.place r.pane.now.place) =
    ap (λ o. machine.way_from o (corner_of after.windows u)) of_pane.place ∙ ap (machine.way_from (Some r.pane.now.place)) place in
    ap (λ o. or_exposed (brought before u old x y o) d) way
    ∙ ap (λ o. or_exposed o d) (same_found (owns before u left top) (old left top) (cell_in r.pane.now.spans left top) (λ h. looks left top h ∙ sym (shown left top h)))
    ∙ ap (λ b. or_exposed (cond b (cell_in r.pane.now.spans left top) None) d) (sym (of_pane.pixels left top))
    ∙ ap (or_exposed (cond (owned r left top) (cell_in r.pane.now.spans left top) None)) exposed

-- whatever the window does
own_is : (m : machine.Motion) (before after : Desk) (colors : List (List Color)) (r : Renewal) (old : Lookup) (cells : ℤ → ℤ → Cell) (x y : ℤ) → IsPaneOf before r.pane.now → Shown before r cells → LooksUp old before r.pane.now.window cells → corner_of after.windows r.pane.now.window ≡ Some r.place → slice_get after.pointing.trees r.pane.now.window ≡ Some r.tree.now → exposed_at after colors r.pane.now.window x y (cells x y) ≡ exposed_as (color_at r x y) (cells x y) → own_cell before after colors r.pane.now.window m old x y (cells x y) ≡ renewed_by (motion_by m r.pane.now.place r.place) r x y (cells x y)
own_is machine.still before after colors r old cells x y of_pane shown looks place views exposed =
    still_cell before after colors r old cells x y of_pane shown exposed
own_is machine.moving before after colors r old cells x y of_pane shown looks place views exposed =
    moved_cell before after colors r old cells x y of_pane shown looks place exposed
own_is machine.resizing before after colors r old cells x y of_pane shown looks place views exposed =
    resized_cell before after colors r old cells x y of_pane shown exposed (kept_spot before after r x y of_pane place views)

-- ---- the change rule

in_window : (b : Bool) (before after : Desk) (w : ℕ) (change : Change) (colors : List (List Color)) (r : Renewal) (old : Lookup) (cells : ℤ → ℤ → Cell) (x y : ℤ) → (r.pane.now.window == w) ≡ b → IsPaneOf before r.pane.now → Shown before r cells → LooksUp old before w cells → corner_of after.windows r.pane.now.window ≡ Some r.place → slice_get after.pointing.trees r.pane.now.window ≡ Some r.tree.now → exposed_at after colors r.pane.now.window x y (cells x y) ≡ exposed_as (color_at r x y) (cells x y) → cond b (own_cell before after colors w (motion_of change) old x y (cells x y)) (own_cell before after colors r.pane.now.window machine.still old x y (cells x y)) ≡ renewed_by (cond b (motion_by (motion_of change) r.pane.now.place r.place) Still) r x y (cells x y)
in_window true before after w change colors r old cells x y same of_pane shown looks place views exposed =
    let u : ℕ = r.pane.now.window in
    let e : u ≡ w = eqb-true u w same in
    subst (λ (v : ℕ). own_cell before after colors v (motion_of change) old x y (cells x y) ≡ renewed_by (motion_by (motion_of change) r.pane.now.place r.place) r x y (cells x y)) e
    (own_is (motion_of change) before after colors r old cells x y of_pane shown (subst (λ (v : ℕ). LooksUp old before v cells) (sym e) looks) place views exposed)
in_window false before after w change colors r old cells x y same of_pane shown looks place views exposed =
    still_cell before after colors r old cells x y of_pane shown exposed

-- the cell that the pane gives is the one that the rule gives
pub renewed_is_changed : (before after : Desk) (w : ℕ) (change : Change) (colors : List (List Color)) (r : Renewal) (old : Lookup) (cells : ℤ → ℤ → Cell) (x y : ℤ) → IsPaneOf before r.pane.now → IsRenewalIn after w change r → ((z t : ℤ) → owns before r.pane.now.window z t ≡ true → cell_in r.pane.now.spans z t ≡ Some (cells z t)) → slice_get colors r.pane.now.window ≡ Some r.pane.now.colors.items → LooksUp old before w cells → owns after r.pane.now.window x y ≡ true → changed_cell before after colors w change old x y (cells x y) ≡ renewed_cell r x y (cells x y)
unfolding changed_cell
renewed_is_changed before after w change colors r old cells x y of_pane renewal shown colored looks owned_then =
    let u : ℕ = r.pane.now.window in
    let exposed = exposed_seen after colors r x y (cells x y) renewal.place renewal.views colored in
    ap (λ o. cell_of before after colors w (motion_of change) o old x y (cells x y)) (number_is u (owner_at after.windows x y) owned_then)
    ∙ in_window (u == w) before after w change colors r old cells x y refl of_pane shown looks renewal.place renewal.views exposed
    ∙ ap (λ m. or_exposed (cond (is_kept_by m r x y) (brought_by m r.pane.now.spans x y) None) (exposed_as (color_at r x y) (cells x y))) (sym renewal.motion)
