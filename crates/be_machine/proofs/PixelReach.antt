-- What a command at a view changes, it reaches.
use Rattle.std.proofs.Common.{◌≡◌, ℕ, Bool, true, false, List, Option, Some, None, refl, sym, ap, subst, ◌∙◌}
use Rattle.std.specs.Prelude.{ℤ, ◌&&◌, slice_get, option_map, option_and_then, if◌then◌else◌}
use Rattle.std.specs.Option.{option_map_or}
use Rattle.std.proofs.lemmas.Bool.{and_left}
use Rattle.be_bitmap.specs.Pictures.{Picture}
use Rattle.be_color.specs.declared.colors.Color.{Color}
use Rattle.be_command.specs.Effects.{Deed, draws, sets, colors, saves, restores, copies, invalidates, at_view, effect_of}
use Rattle.be_desk.specs.Changes.{view_here}
use Rattle.be_geom.specs.declared.point.Point.{Point}
use Rattle.be_geom.specs.declared.rect.Rect.{Rect}
use Rattle.be_geom.specs.Places.{at_pixel, less}
use Rattle.be_geom.proofs.Numbered.{number_is}
use Rattle.be_input.specs.Pointing.{view_in, view_under}
use Rattle.be_link.specs.Queues.{Numbered}
use Rattle.be_paint.specs.Copies.{copied_cell, invalidated_in, invalidated_cell}
use Rattle.be_paint.specs.Inks.{Ink, painted_cell}
use Rattle.be_paint.specs.Reach.{Reach, in_window, in_view, session_has, is_here, is_reached}
use Rattle.be_pane.specs.Panes.{Pane}
use Rattle.be_script.specs.Script.{Declared}
use Rattle.be_span.specs.Cells.{Lookup, exposed_as}
use Rattle.be_span.specs.declared.Cell.{Cell}
use Rattle.be_state.specs.Stacks.{Stack, allows}
use Rattle.be_twin.specs.Deeds.{ink_of, inked_cell, cell_after}
use Rattle.be_twin.specs.Executed.{Sight, sight_by, sight_of, executed_cell}
use Rattle.be_views.specs.Pixels.{view_at}
use Rattle.be_views.specs.Trees.{Tree, place_of, is_at_or_below}
use Rattle.be_machine.specs.Commands.{sight_at, done_at_view, with_effect, without_front}
use Rattle.be_machine.specs.declared.Entry.{Entry}
use Rattle.be_machine.specs.PixelLaws.{IsReachedAt, is_invalidating, IsWithinView}
use Rattle.be_machine.specs.Pixels.{pixel_at, owner_in, Executes}
use Rattle.be_machine.specs.State.{State}
use Rattle.be_machine.specs.Step.{step}
use Rattle.be_machine.specs.Windows.{width_of, owned, corner_at, tree_at}
use Rattle.be_machine.proofs.Found.{IsMapped, mapped, IsChained, chained, IsJoined, joined}
use Rattle.be_machine.proofs.PixelHistory.{exec_step, stays_in_window}
use Rattle.be_machine.proofs.PixelRules.{stays_by}

-- ---- what isn't reached stays

unless : {X : Type 0} (b : Bool) (x y : X) → b ≡ false → (if b then x else y) ≡ y
unless true x y h = cc
unless false x y h = refl

painted_unreached : (owned : ℤ → ℤ → Bool) (reach : Reach) (ink : Ink) (old : Lookup) (x y : ℤ) (c : Cell) → is_reached owned reach x y ≡ false → painted_cell owned reach ink old x y c ≡ c
unfolding painted_cell
painted_unreached owned reach ink old x y c h = unless (is_reached owned reach x y) _ c h

inked_unreached : (owned : ℤ → ℤ → Bool) (reach : Reach) (o : Option Ink) (old : Lookup) (x y : ℤ) (c : Cell) → is_reached owned reach x y ≡ false → inked_cell owned reach o old x y c ≡ c
inked_unreached owned reach (Some ink) old x y c h = painted_unreached owned reach ink old x y c h
inked_unreached owned reach None old x y c h = refl

copied_unreached : (owned : ℤ → ℤ → Bool) (reach : Reach) (source : Rect) (target : Point) (color : Color) (old : Lookup) (x y : ℤ) (c : Cell) → is_reached owned reach x y ≡ false → copied_cell owned reach source target color old x y c ≡ c
unfolding copied_cell
copied_unreached owned reach source target color old x y c h = unless _ _ c (and_left (is_reached owned reach x y) _ h)

deed_unreached : (pictures : List Picture) (owned : ℤ → ℤ → Bool) (reach : Reach) (color : Color) (all : List Color) (deed : Deed) (old : Lookup) (x y : ℤ) (c : Cell) → is_invalidating deed ≡ false → is_reached owned reach x y ≡ false → cell_after pictures owned reach color all deed old x y c ≡ c
deed_unreached pictures owned reach color all (draws figure) old x y c quiet h = inked_unreached owned reach (ink_of pictures reach.stack.top.state figure) old x y c h
deed_unreached pictures owned reach color all (sets setting) old x y c quiet h = refl
deed_unreached pictures owned reach color all (colors other) old x y c quiet h = refl
deed_unreached pictures owned reach color all saves old x y c quiet h = refl
deed_unreached pictures owned reach color all restores old x y c quiet h = refl
deed_unreached pictures owned reach color all (copies source target) old x y c quiet h = copied_unreached owned reach source target color old x y c h
deed_unreached pictures owned reach color all (invalidates r) old x y c quiet h = cc

-- a view that isn't at the pixel, nor around the one that is
abbrev is_around : Reach → Option ℕ → Bool
is_around reach (Some u) = is_at_or_below reach.tree reach.view u
is_around reach None = false

around_stays : (reach : Reach) (all : List Color) (o : Option ℕ) (c : Cell) → is_around reach o ≡ false → invalidated_in reach all o c ≡ c
around_stays reach all (Some u) c h = unless (is_at_or_below reach.tree reach.view u) (exposed_as (slice_get all u) c) c h
around_stays reach all None c h = refl

invalidated_by : (b : Bool) (x c : Cell) → x ≡ c → (if b then x else c) ≡ c
invalidated_by true x c h = h
invalidated_by false x c h = refl

invalidated_around : (owned : ℤ → ℤ → Bool) (reach : Reach) (r : Rect) (all : List Color) (old : Lookup) (x y : ℤ) (c : Cell) → is_around reach (view_at reach.tree (in_window reach x y).x (in_window reach x y).y) ≡ false → invalidated_cell owned reach r all old x y c ≡ c
unfolding invalidated_cell
invalidated_around owned reach r all old x y c h = invalidated_by _ _ c (around_stays reach all _ c h)

deed_around : (pictures : List Picture) (owned : ℤ → ℤ → Bool) (reach : Reach) (color : Color) (all : List Color) (deed : Deed) (old : Lookup) (x y : ℤ) (c : Cell) → is_invalidating deed ≡ true → is_around reach (view_at reach.tree (in_window reach x y).x (in_window reach x y).y) ≡ false → cell_after pictures owned reach color all deed old x y c ≡ c
deed_around pictures owned reach color all (invalidates r) old x y c loud h = invalidated_around owned reach r all old x y c h
deed_around pictures owned reach color all (draws figure) old x y c loud h = cc
deed_around pictures owned reach color all (sets setting) old x y c loud h = cc
deed_around pictures owned reach color all (colors other) old x y c loud h = cc
deed_around pictures owned reach color all saves old x y c loud h = cc
deed_around pictures owned reach color all restores old x y c loud h = cc
deed_around pictures owned reach color all (copies source target) old x y c loud h = cc

-- ---- a view as a command finds it

record IsSeen (s : State) (w v : ℕ) (pane : Pane) (sight : Sight) : Type 0 where
  corner : Point
  tree : Tree
  place : Point
  stack : Stack
  begins : corner_at s w ≡ Some corner
  there : tree_at s w ≡ Some tree
  lies : place_of tree v ≡ Some place
  drawn : slice_get pane.stacks v ≡ Some stack
  reach : sight.reach ≡ record { window = corner; place = place; tree = tree; view = v; stack = stack; session = pane.session }

same_reach : (corner : Point) (tree : Tree) (pane : Pane) (v : ℕ) (place : Point) (stack : Stack) (color : Color) (sight : Sight) → sight_by corner tree pane v place stack color ≡ sight → sight.reach ≡ record { window = corner; place = place; tree = tree; view = v; stack = stack; session = pane.session }
same_reach corner tree pane v place stack color sight e = ap (λ (x : Sight). x.reach) (sym e)

seen_of : (s : State) (w v : ℕ) (pane : Pane) (sight : Sight) → sight_at s w v pane ≡ Some sight → IsSeen s w v pane sight
unfolding sight_of
seen_of s w v pane sight e =
    let one : IsJoined (λ corner tree. sight_of corner tree pane v) (corner_at s w) (tree_at s w) sight = joined (λ (corner : Point) (tree : Tree). sight_of corner tree pane v) (corner_at s w) (tree_at s w) sight e in
    let two : IsChained (λ place. option_and_then (λ stack. option_map (sight_by one.first one.second pane v place stack) (slice_get pane.colors v)) (slice_get pane.stacks v)) (place_of one.second v) sight = chained (λ (place : Point). option_and_then (λ stack. option_map (sight_by one.first one.second pane v place stack) (slice_get pane.colors v)) (slice_get pane.stacks v)) (place_of one.second v) sight one.is in
    let three : IsChained (λ stack. option_map (sight_by one.first one.second pane v two.from stack) (slice_get pane.colors v)) (slice_get pane.stacks v) sight = chained (λ (stack : Stack). option_map (sight_by one.first one.second pane v two.from stack) (slice_get pane.colors v)) (slice_get pane.stacks v) sight two.is in
    let four : IsMapped (sight_by one.first one.second pane v two.from three.from) (slice_get pane.colors v) sight = mapped (sight_by one.first one.second pane v two.from three.from) (slice_get pane.colors v) sight three.is in
    record {
      corner = one.first;
      tree = one.second;
      place = two.from;
      stack = three.from;
      begins = one.read_first;
      there = one.read_second;
      lies = two.read;
      drawn = three.read;
      reach = same_reach one.first one.second pane v two.from three.from four.from sight four.is;
    }

-- the window's view at the pixel
here_is : (s : State) (w : ℕ) (x y : ℤ) (corner : Point) (tree : Tree) → corner_at s w ≡ Some corner → tree_at s w ≡ Some tree → view_here s.desk w x y ≡ view_at tree (less (at_pixel x y) corner).x (less (at_pixel x y) corner).y
unfolding view_under
here_is s w x y corner tree begins there =
    ap (option_and_then (λ corner. view_in s.desk.pointing.trees w (less (at_pixel x y) corner))) begins
    ∙ ap (option_and_then (λ tree. view_at tree (less (at_pixel x y) corner).x (less (at_pixel x y) corner).y)) there

placed : (s : State) (w v : ℕ) (tree : Tree) (place : Point) → tree_at s w ≡ Some tree → place_of tree v ≡ Some place → option_and_then (λ tree. place_of tree v) (slice_get s.desk.pointing.trees w) ≡ Some place
placed s w v tree place there lies = ap (option_and_then (λ tree. place_of tree v)) there ∙ lies

-- what the four tests of a reach say
record IsReaching (own : ℤ → ℤ → Bool) (reach : Reach) (x y : ℤ) : Type 0 where
  owner : own x y ≡ true
  here : is_here reach (in_window reach x y) ≡ true
  clips : allows reach.stack (in_view reach x y).x (in_view reach x y).y ≡ true
  session : session_has reach.session (in_window reach x y) ≡ true

four_tests : {P : Type 0} (a b c e : Bool) → (a && b && c && e) ≡ true → (a ≡ true → b ≡ true → c ≡ true → e ≡ true → P) → P
four_tests true true true true h f = f refl refl refl refl
four_tests true true true false h f = cc
four_tests true true false e h f = cc
four_tests true false c e h f = cc
four_tests false b c e h f = cc

reaching : (own : ℤ → ℤ → Bool) (reach : Reach) (x y : ℤ) → is_reached own reach x y ≡ true → IsReaching own reach x y
unfolding is_reached
reaching own reach x y e =
    four_tests (own x y) (is_here reach (in_window reach x y)) (allows reach.stack (in_view reach x y).x (in_view reach x y).y) (session_has reach.session (in_window reach x y)) e
    (λ owner here clips session. record { owner = owner; here = here; clips = clips; session = session })

reached_at : (s : State) (w v : ℕ) (x y : ℤ) (pane : Pane) (sight : Sight) → slice_get s.panes w ≡ Some pane → IsSeen s w v pane sight → is_reached (owned s w) sight.reach x y ≡ true → IsReachedAt s w v x y
reached_at s w v x y pane sight kept seen e =
    let reach : Reach = record { window = seen.corner; place = seen.place; tree = seen.tree; view = v; stack = seen.stack; session = pane.session } in
    let holds : IsReaching (owned s w) reach x y = subst (λ r. IsReaching (owned s w) r x y) seen.reach (reaching (owned s w) sight.reach x y e) in
    record {
      pane = pane;
      kept = kept;
      corner = seen.corner;
      begins = seen.begins;
      place = seen.place;
      lies = placed s w v seen.tree seen.place seen.there seen.lies;
      stack = seen.stack;
      drawn = seen.drawn;
      owner = number_is w (owner_in s x y) holds.owner;
      view = here_is s w x y seen.corner seen.tree seen.begins seen.there ∙ number_is v _ holds.here;
      clips = holds.clips;
      session = holds.session;
    }

-- ---- the pixel

-- by the pane, and by the view as the command finds it
sight_rule : (pictures : List Picture) (s : State) (w v : ℕ) (deed : Deed) (pane : Pane) (sight : Sight) (x y : ℤ) (b : Bool) → slice_get s.panes w ≡ Some pane → IsSeen s w v pane sight → is_reached (owned s w) sight.reach x y ≡ b → is_invalidating deed ≡ false → (((old : Lookup) (c : Cell) → cell_after pictures (owned s w) sight.reach sight.color pane.colors deed old x y c ≡ c) → ⊥) → IsReachedAt s w v x y
sight_rule pictures s w v deed pane sight x y true kept seen e quiet changes = reached_at s w v x y pane sight kept seen e
sight_rule pictures s w v deed pane sight x y false kept seen e quiet changes = absurd (changes (λ old c. deed_unreached pictures (owned s w) sight.reach sight.color pane.colors deed old x y c quiet e))

sight_by_view : (pictures : List Picture) (s : State) (w v : ℕ) (deed : Deed) (pane : Pane) (o : Option Sight) (x y : ℤ) → slice_get s.panes w ≡ Some pane → sight_at s w v pane ≡ o → is_invalidating deed ≡ false → (((old : Lookup) (c : Cell) → executed_cell pictures (owned s w) pane.colors deed o old x y c ≡ c) → ⊥) → IsReachedAt s w v x y
unfolding executed_cell
sight_by_view pictures s w v deed pane (Some sight) x y kept e quiet changes = sight_rule pictures s w v deed pane sight x y (is_reached (owned s w) sight.reach x y) kept (seen_of s w v pane sight e) refl quiet changes
sight_by_view pictures s w v deed pane None x y kept e quiet changes = absurd (changes (λ old c. refl))

pane_by_view : (pictures : List Picture) (s : State) (w v : ℕ) (deed : Deed) (o : Option Pane) (x y : ℤ) → slice_get s.panes w ≡ o → is_invalidating deed ≡ false → (pixel_at (option_map_or (done_at_view pictures s w v deed) o s) x y ≡ pixel_at s x y → ⊥) → IsReachedAt s w v x y
pane_by_view pictures s w v deed (Some pane) x y kept quiet changes =
    sight_by_view pictures s w v deed pane (sight_at s w v pane) x y kept refl quiet (λ same. changes (stays_by (width_of s) (executed_cell pictures (owned s w) pane.colors deed (sight_at s w v pane)) s.screen x y same))
pane_by_view pictures s w v deed None x y kept quiet changes = absurd (changes refl)

-- the state after the command
done : (d : Declared) (s : State) (e : Entry) (w v : ℕ) (c : Numbered) (deed : Deed) → Executes d s e w c → effect_of c.command ≡ at_view v deed → step d s e ≡ with_effect d.pictures (without_front s w) w (at_view v deed)
done d s e w v c deed is at = exec_step d s e w c is ∙ ap (with_effect d.pictures (without_front s w) w) at

pub reached_by_command : (d : Declared) (s : State) (e : Entry) (w v : ℕ) (c : Numbered) (deed : Deed) (x y : ℤ) → Executes d s e w c → effect_of c.command ≡ at_view v deed → is_invalidating deed ≡ false → (pixel_at (step d s e) x y ≡ pixel_at s x y → ⊥) → IsReachedAt s w v x y
reached_by_command d s e w v c deed x y is at quiet changes =
    let h : IsReachedAt (without_front s w) w v x y = pane_by_view d.pictures (without_front s w) w v deed (slice_get s.panes w) x y refl quiet (λ same. changes (ap (λ r. pixel_at r x y) (done d s e w v c deed is at) ∙ same)) in
    record {
      pane = h.pane;
      kept = h.kept;
      corner = h.corner;
      begins = h.begins;
      place = h.place;
      lies = h.lies;
      stack = h.stack;
      drawn = h.drawn;
      owner = h.owner;
      view = h.view;
      clips = h.clips;
      session = h.session;
    }

-- ---- what is invalidated

around_is : (s : State) (w v : ℕ) (x y : ℤ) (corner : Point) (tree : Tree) (o : Option ℕ) (reach : Reach) → reach.tree ≡ tree → reach.view ≡ v → owner_in s x y ≡ Some w → corner_at s w ≡ Some corner → tree_at s w ≡ Some tree → view_here s.desk w x y ≡ o → is_around reach o ≡ true → IsWithinView s w v x y
around_is s w v x y corner tree (Some u) reach same_tree same_view owner begins there at e = record {
  tree = tree;
  there = there;
  at = u;
  owner = owner;
  view = at;
  inside = ap (λ t. is_at_or_below t v u) (sym same_tree) ∙ ap (λ n. is_at_or_below reach.tree n u) (sym same_view) ∙ e;
}
around_is s w v x y corner tree None reach same_tree same_view owner begins there at e = cc

around_rule : (pictures : List Picture) (s : State) (w v : ℕ) (deed : Deed) (pane : Pane) (sight : Sight) (x y : ℤ) (b : Bool) → IsSeen s w v pane sight → owner_in s x y ≡ Some w → is_around sight.reach (view_at sight.reach.tree (in_window sight.reach x y).x (in_window sight.reach x y).y) ≡ b → is_invalidating deed ≡ true → (((old : Lookup) (c : Cell) → cell_after pictures (owned s w) sight.reach sight.color pane.colors deed old x y c ≡ c) → ⊥) → IsWithinView s w v x y
around_rule pictures s w v deed pane sight x y true seen owner e loud changes =
    around_is s w v x y seen.corner seen.tree (view_at sight.reach.tree (in_window sight.reach x y).x (in_window sight.reach x y).y) sight.reach (ap (λ (r : Reach). r.tree) seen.reach) (ap (λ (r : Reach). r.view) seen.reach) owner seen.begins seen.there
    (here_is s w x y seen.corner seen.tree seen.begins seen.there ∙ sym (ap (λ (r : Reach). view_at r.tree (in_window r x y).x (in_window r x y).y) seen.reach)) e
around_rule pictures s w v deed pane sight x y false seen owner e loud changes = absurd (changes (λ old c. deed_around pictures (owned s w) sight.reach sight.color pane.colors deed old x y c loud e))

around_by_view : (pictures : List Picture) (s : State) (w v : ℕ) (deed : Deed) (pane : Pane) (o : Option Sight) (x y : ℤ) → owner_in s x y ≡ Some w → sight_at s w v pane ≡ o → is_invalidating deed ≡ true → (((old : Lookup) (c : Cell) → executed_cell pictures (owned s w) pane.colors deed o old x y c ≡ c) → ⊥) → IsWithinView s w v x y
unfolding executed_cell
around_by_view pictures s w v deed pane (Some sight) x y owner e loud changes = around_rule pictures s w v deed pane sight x y (is_around sight.reach (view_at sight.reach.tree (in_window sight.reach x y).x (in_window sight.reach x y).y)) (seen_of s w v pane sight e) owner refl loud changes
around_by_view pictures s w v deed pane None x y owner e loud changes = absurd (changes (λ old c. refl))

around_by_pane : (pictures : List Picture) (s : State) (w v : ℕ) (deed : Deed) (o : Option Pane) (x y : ℤ) → owner_in s x y ≡ Some w → is_invalidating deed ≡ true → (pixel_at (option_map_or (done_at_view pictures s w v deed) o s) x y ≡ pixel_at s x y → ⊥) → IsWithinView s w v x y
around_by_pane pictures s w v deed (Some pane) x y owner loud changes =
    around_by_view pictures s w v deed pane (sight_at s w v pane) x y owner refl loud (λ same. changes (stays_by (width_of s) (executed_cell pictures (owned s w) pane.colors deed (sight_at s w v pane)) s.screen x y same))
around_by_pane pictures s w v deed None x y owner loud changes = absurd (changes refl)

owned_or : (s : State) (w : ℕ) (x y : ℤ) (b : Bool) → owned s w x y ≡ b → (owned s w x y ≡ false → ⊥) → owner_in s x y ≡ Some w
owned_or s w x y true e h = number_is w (owner_in s x y) e
owned_or s w x y false e h = absurd (h e)

pub invalidated_by_command : (d : Declared) (s : State) (e : Entry) (w v : ℕ) (c : Numbered) (deed : Deed) (x y : ℤ) → Executes d s e w c → effect_of c.command ≡ at_view v deed → is_invalidating deed ≡ true → (pixel_at (step d s e) x y ≡ pixel_at s x y → ⊥) → IsWithinView s w v x y
invalidated_by_command d s e w v c deed x y is at loud changes =
    let owner : owner_in s x y ≡ Some w = owned_or s w x y (owned s w x y) refl (λ unowned. changes (stays_in_window d s e w v c deed x y is at unowned)) in
    let h : IsWithinView (without_front s w) w v x y = around_by_pane d.pictures (without_front s w) w v deed (slice_get s.panes w) x y owner loud (λ same. changes (ap (λ r. pixel_at r x y) (done d s e w v c deed is at) ∙ same)) in
    record { tree = h.tree; there = h.there; at = h.at; owner = h.owner; view = h.view; inside = h.inside }
