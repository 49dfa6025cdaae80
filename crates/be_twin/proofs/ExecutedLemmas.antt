-- A pane on which a command was executed, and the window for which it stands.
use Rattle.std.specs.Prelude.{option_map, slice_get, slice_set, if◌then◌else◌}
use Rattle.std.proofs.Common.{◌≡◌, ℕ, ◌<◌, ℤ, Bool, true, false, List, [], length, Option, Some, None, arith, refl, sym, ap, subst, ◌∙◌}
use Rattle.std.proofs.lemmas.Option.{same_Some, slice_get_within}
use Rattle.be_facts.proofs.Lists.{set_length, set_self, element}
use Rattle.be_geom.specs.declared.point.Point.{Point}
use Rattle.be_geom.specs.declared.rect.Rect.{Rect}
use Rattle.be_geom.specs.Rects.{rect_has, moved_rect}
use Rattle.be_color.specs.declared.colors.Color.{Color}
use Rattle.be_bitmap.specs.Pictures.{Picture}
use Rattle.be_command.specs.Effects.{Figure, Deed, draws, sets, colors, saves, restores, copies, invalidates, Effect, at_view, changes, ends_update}
use Rattle.be_paint.specs.Inks.{Ink}
use Rattle.be_paint.specs.Reach.{Reach}
use Rattle.be_pane.specs.Panes.{Pane}
use Rattle.be_pane.specs.declared.pane.Pane as code
use Rattle.be_pane.specs.SameStacks.{SameStacks}
use Rattle.be_region.specs.Sessions.{SameSession}
use Rattle.be_pane.specs.StandsFor.{PaneStandsFor, IsWhole}
use Rattle.be_pane.proofs.SameLemmas.{stacks_equal, stacks_length, stacks_set, stacks_trans}
use Rattle.be_region.specs.Regions.{region_has}
use Rattle.be_span.specs.Cells.{Lookup}
use Rattle.be_span.specs.Spans.{cell_in}
use Rattle.be_span.specs.declared.Cell.{Cell}
use Rattle.be_state.specs.Stacks.{Stack}
use Rattle.be_views.specs.Trees.{Tree, View, place_of}
use Rattle.be_twin.specs.declared.Outcome.{Outcome}
use Rattle.be_twin.specs.declared.Outcome.TheVariants.{Done, StackFull, StackEmpty, NoView, NoBitmap, OffRange, Gone}
use Rattle.be_twin.specs.Deeds.{cell_after, color_after, deed_outcome, drawn_outcome, ink_of, inked_cell, stack_after, with_pen}
use Rattle.be_twin.specs.Executed.{Sight, executed_cell, is_done, outcome_at, pane_after, pane_by, sight_by, sight_of, without_session}
use Rattle.be_twin.specs.Judged.{IsJudged, IsNoChange, by_states}
use Rattle.be_twin.specs.StandsAfter.{AgreesWith, StandsAfter}
use Rattle.be_twin.specs.Made.{IsSameWindow, IsReachOf, IsInkedWith, IsDone, IsPerformed, without_update}
use Rattle.be_twin.proofs.StackLemmas.{after_same, outcome_same}
use Rattle.be_twin.proofs.PixelLemmas.{cell_owned, cell_stack}
use Rattle.be_twin.proofs.JudgedLemmas.{Found, found_at, judged_as}

-- ---- lists

same_map : (o : Option Cell) → option_map (λ c. c) o ≡ o
same_map (Some c) = refl
same_map None = refl

-- ---- what a deed made of the pane

pub record IsMade (pictures : List Picture) (v : ℕ) (deed : Deed) (old new : code.Pane) (stack : Stack) (color : Color) : Type 0 where
  pub window : IsSameWindow old new
  pub stacks : SameStacks new.states.items (slice_set old.states.items v (stack_after pictures deed stack))
  pub colors : new.colors.items ≡ slice_set old.colors.items v (color_after deed color)
  pub cells : (seen : Reach) → IsReachOf old v seen → (x y : ℤ) → cell_in new.spans x y ≡ option_map (cell_after pictures (region_has old.spans.rects) seen color old.colors.items deed (cell_in old.spans) x y) (cell_in old.spans x y)

seen_stack : (pane : code.Pane) (v : ℕ) (seen : Reach) (stack : Stack) → IsReachOf pane v seen → slice_get pane.states.items v ≡ Some stack → stack ≡ seen.stack
seen_stack pane v seen stack is at = same_Some stack seen.stack (sym at ∙ is.stack)

kept_colors : (old new : List Color) (v : ℕ) (color : Color) → new ≡ old → slice_get old v ≡ Some color → new ≡ slice_set old v color
kept_colors old new v color e at = e ∙ sym (set_self old v color at)

kept_stacks : (old new : List Stack) (v : ℕ) (stack : Stack) → new ≡ old → slice_get old v ≡ Some stack → SameStacks new (slice_set old v stack)
kept_stacks old new v stack e at = stacks_equal new (slice_set old v stack) (e ∙ sym (set_self old v stack at))

kept_cells : (old new : code.Pane) → new.spans ≡ old.spans → (x y : ℤ) → cell_in new.spans x y ≡ option_map (λ c. c) (cell_in old.spans x y)
kept_cells old new e x y = ap (λ s. cell_in s x y) e ∙ sym (same_map (cell_in old.spans x y))

inked : (pictures : List Picture) (v : ℕ) (figure : Figure) (ink : Option Ink) (old new : code.Pane) (stack : Stack) (color : Color) → slice_get old.states.items v ≡ Some stack → slice_get old.colors.items v ≡ Some color → ink_of pictures stack.top.state figure ≡ ink → drawn_outcome ink ≡ Done → IsInkedWith v ink old new → IsMade pictures v (draws figure) old new stack color
inked pictures v figure (Some ink) old new stack color at shown e ok made = record {
  window = made.window;
  stacks = subst (λ (o : Option Ink). SameStacks new.states.items (slice_set old.states.items v (with_pen stack o))) (sym e) (made.stacks stack at);
  colors = kept_colors old.colors.items new.colors.items v color made.colors shown;
  cells = λ seen is x y.
      made.cells seen is x y
      ∙ ap (λ (o : Option Ink). option_map (inked_cell (region_has old.spans.rects) seen o (cell_in old.spans) x y) (cell_in old.spans x y)) (sym e ∙ ap (λ (s : Stack). ink_of pictures s.top.state figure) (seen_stack old v seen stack is at));
}
inked pictures v figure None old new stack color at shown e ok made = absurd (cc)

pub made_of : (pictures : List Picture) (v : ℕ) (deed : Deed) (old new : code.Pane) (stack : Stack) (color : Color) → slice_get old.states.items v ≡ Some stack → slice_get old.colors.items v ≡ Some color → deed_outcome pictures stack deed ≡ Done → IsDone pictures v deed old new → IsMade pictures v deed old new stack color
made_of pictures v (draws figure) old new stack color at shown ok done =
    inked pictures v figure (ink_of pictures stack.top.state figure) old new stack color at shown refl ok (done stack at)
made_of pictures v (sets setting) old new stack color at shown ok done = record {
  window = done.window;
  stacks = done.stacks stack at;
  colors = kept_colors old.colors.items new.colors.items v color done.colors shown;
  cells = λ seen is x y. kept_cells old new done.cells x y;
}
made_of pictures v (colors other) old new stack color at shown ok done = record {
  window = done.window;
  stacks = kept_stacks old.states.items new.states.items v stack done.stacks at;
  colors = done.colors;
  cells = λ seen is x y. kept_cells old new done.cells x y;
}
made_of pictures v saves old new stack color at shown ok done = record {
  window = done.window;
  stacks = done.stacks stack at;
  colors = kept_colors old.colors.items new.colors.items v color done.colors shown;
  cells = λ seen is x y. kept_cells old new done.cells x y;
}
made_of pictures v restores old new stack color at shown ok done = record {
  window = done.window;
  stacks = done.stacks stack at;
  colors = kept_colors old.colors.items new.colors.items v color done.colors shown;
  cells = λ seen is x y. kept_cells old new done.cells x y;
}
made_of pictures v (copies source target) old new stack color at shown ok done =
    let copied = done color shown in
    record {
      window = copied.window;
      stacks = kept_stacks old.states.items new.states.items v stack copied.stacks at;
      colors = kept_colors old.colors.items new.colors.items v color copied.colors shown;
      cells = copied.cells;
    }
made_of pictures v (invalidates r) old new stack color at shown ok done = record {
  window = done.window;
  stacks = kept_stacks old.states.items new.states.items v stack done.stacks at;
  colors = kept_colors old.colors.items new.colors.items v color done.colors shown;
  cells = done.cells;
}

-- ---- it is whole

got_root : (old new : code.Pane) (root : View) → IsSameWindow old new → slice_get new.tree 0 ≡ Some root → slice_get old.tree 0 ≡ Some root
got_root old new root same e = ap (λ (t : Tree). slice_get t 0) (sym same.tree) ∙ e

whole_of : (pictures : List Picture) (v : ℕ) (deed : Deed) (old new : code.Pane) (stack : Stack) (color : Color) → IsMade pictures v deed old new stack color → IsWhole old → IsWhole new
whole_of pictures v deed old new stack color made whole = record {
  colored = ap length made.colors ∙ set_length old.colors.items v (color_after deed color) ∙ whole.colored ∙ ap (λ (t : Tree). length t) (sym made.window.tree);
  drawn = stacks_length new.states.items _ made.stacks ∙ set_length old.states.items v (stack_after pictures deed stack) ∙ whole.drawn ∙ ap (λ (t : Tree). length t) (sym made.window.tree);
  within = λ x y has root at.
      subst (λ (p : Point). rect_has (moved_rect root.frame p.x p.y) x y ≡ true) (sym made.window.place)
      (whole.within x y (ap (λ (rs : List Rect). region_has rs x y) (sym made.window.region) ∙ has) root (got_root old new root made.window at));
}

-- a view of which a deed is done is there
stack_done : (o : Option Stack) (by : Stack → Outcome) → Done ≡ by_states o by → (stack : Stack) × (o ≡ Some stack) × (by stack ≡ Done)
stack_done (Some stack) by e = (stack, refl, sym e)
stack_done None by e = absurd (cc)

color_there : (pane : code.Pane) (v : ℕ) (stack : Stack) → IsWhole pane → slice_get pane.states.items v ≡ Some stack → (color : Color) × (slice_get pane.colors.items v ≡ Some color)
color_there pane v stack whole at =
    let within = slice_get_within pane.states.items v stack at in
    let drawn = whole.drawn in
    let colored = whole.colored in
    element pane.colors.items v (omega arith)

pub whole_after : (pictures : List Picture) (effect : Effect) (old new : code.Pane) → IsWhole old → IsNoChange effect → IsJudged pictures old effect Done → IsPerformed pictures effect old new → IsWhole new
whole_after pictures (at_view v deed) old new whole no_change judged done =
    let stack = stack_done (slice_get old.states.items v) (λ s. deed_outcome pictures s deed) judged.comes in
    let color = color_there old v stack.0 whole stack.1 in
    whole_of pictures v deed old new stack.0 color.0 (made_of pictures v deed old new stack.0 color.0 stack.1 color.1 stack.2 done) whole
whole_after pictures (changes change) old new whole no_change judged done = absurd no_change
whole_after pictures ends_update old new whole no_change judged done =
    subst (λ (p : code.Pane). IsWhole p) (sym done) (record { colored = whole.colored; drawn = whole.drawn; within = whole.within })

-- ---- the window for which it stands

reach_of : (pane : code.Pane) (v w : ℕ) (corner : Point) (kept : Pane) (tree : Tree) (owned : ℤ → ℤ → Bool) (cells : ℤ → ℤ → Cell) (place : Point) (stack : Stack) → PaneStandsFor pane w corner kept tree owned cells → place_of tree v ≡ Some place → slice_get pane.states.items v ≡ Some stack →
    IsReachOf pane v (record { window = corner; place = place; tree = tree; view = v; stack = stack; session = kept.session })
reach_of pane v w corner kept tree owned cells place stack stands placed at = record {
  window = sym stands.place;
  place = ap (λ (t : Tree). place_of t v) stands.views ∙ placed;
  tree = sym stands.views;
  view = refl;
  stack = at;
  session = stands.session;
}

-- a pixel after the deed, by the pane and by the machine
cell_made : (pictures : List Picture) (deed : Deed) (pane : code.Pane) (v w : ℕ) (corner : Point) (kept : Pane) (tree : Tree) (owned : ℤ → ℤ → Bool) (cells : ℤ → ℤ → Cell) (old : Lookup) (found : Found pane corner kept tree v) → PaneStandsFor pane w corner kept tree owned cells → AgreesWith owned cells old → (x y : ℤ) (c : Cell) →
    cell_after pictures (region_has pane.spans.rects) (record { window = corner; place = found.place; tree = tree; view = v; stack = found.stack; session = kept.session }) found.color pane.colors.items deed (cell_in pane.spans) x y c
    ≡ cell_after pictures owned (record { window = corner; place = found.place; tree = tree; view = v; stack = found.said; session = kept.session }) found.color kept.colors deed old x y c
cell_made pictures deed pane v w corner kept tree owned cells old found stands agrees x y c =
    let ours : Reach = record { window = corner; place = found.place; tree = tree; view = v; stack = found.stack; session = kept.session } in
    ap (λ (all : List Color). cell_after pictures (region_has pane.spans.rects) ours found.color all deed (cell_in pane.spans) x y c) stands.colors
    ∙ cell_owned pictures (region_has pane.spans.rects) owned ours found.color kept.colors deed (cell_in pane.spans) old stands.pixels (λ u v h. stands.shown u v h ∙ sym (agrees u v h)) x y c
    ∙ cell_stack pictures owned ours found.stack found.said found.same found.color kept.colors deed old x y c

stands_by : (pictures : List Picture) (deed : Deed) (pane new : code.Pane) (v w : ℕ) (corner : Point) (kept : Pane) (tree : Tree) (owned : ℤ → ℤ → Bool) (cells : ℤ → ℤ → Cell) (old : Lookup) (found : Found pane corner kept tree v) → PaneStandsFor pane w corner kept tree owned cells → AgreesWith owned cells old → IsMade pictures v deed pane new found.stack found.color →
    let sight : Sight = sight_by corner tree kept v found.place found.said found.color in
    PaneStandsFor new w corner (pane_by pictures deed v sight kept) tree owned (λ x y. cell_after pictures owned sight.reach sight.color kept.colors deed old x y (cells x y))
stands_by pictures deed pane new v w corner kept tree owned cells old found stands agrees made = record {
  number = made.window.number ∙ stands.number;
  place = made.window.place ∙ stands.place;
  pixels = λ x y. ap (λ (rs : List Rect). region_has rs x y) made.window.region ∙ stands.pixels x y;
  shown = λ x y h.
      made.cells _ (reach_of pane v w corner kept tree owned cells found.place found.stack stands found.placed found.stacked) x y
      ∙ ap (option_map _) (stands.shown x y h)
      ∙ ap (λ (c : Cell). Some c) (cell_made pictures deed pane v w corner kept tree owned cells old found stands agrees x y (cells x y));
  views = made.window.tree ∙ stands.views;
  colors = made.colors ∙ ap (λ (l : List Color). slice_set l v (color_after deed found.color)) stands.colors;
  stacks = stacks_trans new.states.items (slice_set pane.states.items v (stack_after pictures deed found.stack)) (slice_set kept.stacks v (stack_after pictures deed found.said)) made.stacks
      (stacks_set pane.states.items kept.stacks v (stack_after pictures deed found.stack) (stack_after pictures deed found.said) stands.stacks (after_same pictures deed found.stack found.said found.same));
  session = subst (λ (o : Option (List Rect)). SameSession o kept.session) (sym made.window.session) stands.session;
  notice = made.window.notice ∙ stands.notice;
}

pane_done : (pictures : List Picture) (deed : Deed) (v : ℕ) (sight : Sight) (kept : Pane) → deed_outcome pictures sight.reach.stack deed ≡ Done → pane_after pictures deed v (Some sight) kept ≡ pane_by pictures deed v sight kept
unfolding pane_after
pane_done pictures deed v sight kept e = ap (λ (o : Outcome). if is_done o then pane_by pictures deed v sight kept else kept) e

-- what stands for a window stands for it by other names
renamed : (pane : code.Pane) (w : ℕ) (corner : Point) (kept other : Pane) (tree : Tree) (owned : ℤ → ℤ → Bool) (cells others : ℤ → ℤ → Cell) → kept ≡ other → ((x y : ℤ) → cells x y ≡ others x y) → PaneStandsFor pane w corner kept tree owned cells → PaneStandsFor pane w corner other tree owned others
renamed pane w corner kept other tree owned cells others e f stands =
    subst (λ (k : Pane). PaneStandsFor pane w corner k tree owned others) e (record {
      number = stands.number;
      place = stands.place;
      pixels = stands.pixels;
      shown = λ x y h. stands.shown x y h ∙ ap (λ (c : Cell). Some c) (f x y);
      views = stands.views;
      colors = stands.colors;
      stacks = stands.stacks;
      session = stands.session;
      notice = stands.notice;
    })

cell_sight : (pictures : List Picture) (owned : ℤ → ℤ → Bool) (all : List Color) (deed : Deed) (o : Option Sight) (sight : Sight) (old : Lookup) (x y : ℤ) (c : Cell) → o ≡ Some sight → cell_after pictures owned sight.reach sight.color all deed old x y c ≡ executed_cell pictures owned all deed o old x y c
unfolding executed_cell
cell_sight pictures owned all deed o sight old x y c e = sym (ap (λ (s : Option Sight). executed_cell pictures owned all deed s old x y c) e)

pane_sight : (pictures : List Picture) (deed : Deed) (v : ℕ) (o : Option Sight) (sight : Sight) (kept : Pane) → o ≡ Some sight → deed_outcome pictures sight.reach.stack deed ≡ Done → pane_by pictures deed v sight kept ≡ pane_after pictures deed v o kept
pane_sight pictures deed v o sight kept e ok =
    sym (ap (λ (s : Option Sight). pane_after pictures deed v s kept) e ∙ pane_done pictures deed v sight kept ok)

-- once a deed is done at a view that is there
done_stands : (pictures : List Picture) (deed : Deed) (pane new : code.Pane) (v w : ℕ) (corner : Point) (kept : Pane) (tree : Tree) (owned : ℤ → ℤ → Bool) (cells : ℤ → ℤ → Cell) (old : Lookup) (found : Found pane corner kept tree v) → PaneStandsFor pane w corner kept tree owned cells → AgreesWith owned cells old → deed_outcome pictures found.stack deed ≡ Done → IsDone pictures v deed pane new →
    StandsAfter pictures w corner kept tree owned cells old (at_view v deed) new
done_stands pictures deed pane new v w corner kept tree owned cells old found stands agrees ok done =
    let sight = sight_by corner tree kept v found.place found.said found.color in
    let made = made_of pictures v deed pane new found.stack found.color found.stacked found.colored ok done in
    renamed new w corner (pane_by pictures deed v sight kept) _ tree owned (λ x y. cell_after pictures owned sight.reach sight.color kept.colors deed old x y (cells x y)) _
    (pane_sight pictures deed v (sight_of corner tree kept v) sight kept found.sight (sym (outcome_same pictures deed found.stack found.said found.same) ∙ ok))
    (λ x y. cell_sight pictures owned kept.colors deed (sight_of corner tree kept v) sight old x y (cells x y) found.sight)
    (stands_by pictures deed pane new v w corner kept tree owned cells old found stands agrees made)

ended : (pane new : code.Pane) (w : ℕ) (corner : Point) (kept : Pane) (tree : Tree) (owned : ℤ → ℤ → Bool) (cells : ℤ → ℤ → Cell) → new ≡ without_update pane → PaneStandsFor pane w corner kept tree owned cells → PaneStandsFor new w corner (without_session kept) tree owned cells
ended pane new w corner kept tree owned cells e stands =
    subst (λ (p : code.Pane). PaneStandsFor p w corner (without_session kept) tree owned cells) (sym e) (record {
      number = stands.number;
      place = stands.place;
      pixels = stands.pixels;
      shown = stands.shown;
      views = stands.views;
      colors = stands.colors;
      stacks = stands.stacks;
      session = tt;
      notice = stands.notice;
    })

stack_fits : (pane : code.Pane) (v : ℕ) (stack : Stack) → IsWhole pane → slice_get pane.states.items v ≡ Some stack → v < length pane.tree
stack_fits pane v stack whole at =
    let within = slice_get_within pane.states.items v stack at in
    let drawn = whole.drawn in
    omega arith

-- a command that isn't refused
pub executed_stands : (pictures : List Picture) (effect : Effect) (pane new : code.Pane) → IsWhole pane → IsJudged pictures pane effect Done → IsPerformed pictures effect pane new →
    (w : ℕ) (corner : Point) (kept : Pane) (tree : Tree) (owned : ℤ → ℤ → Bool) (cells : ℤ → ℤ → Cell) (old : Lookup) → PaneStandsFor pane w corner kept tree owned cells → AgreesWith owned cells old →
    StandsAfter pictures w corner kept tree owned cells old effect new
executed_stands pictures (at_view v deed) pane new whole judged done w corner kept tree owned cells old stands agrees =
    let stack = stack_done (slice_get pane.states.items v) (λ s. deed_outcome pictures s deed) judged.comes in
    let found = found_at pane v w corner kept tree owned cells judged.tree whole (stack_fits pane v stack.0 whole stack.1) stands in
    let same = same_Some stack.0 found.stack (sym stack.1 ∙ found.stacked) in
    done_stands pictures deed pane new v w corner kept tree owned cells old found stands agrees (sym (ap (λ (s : Stack). deed_outcome pictures s deed) same) ∙ stack.2) done
executed_stands pictures (changes change) pane new whole judged done w corner kept tree owned cells old stands agrees = tt
executed_stands pictures ends_update pane new whole judged done w corner kept tree owned cells old stands agrees = ended pane new w corner kept tree owned cells done stands

-- ---- a command that is refused

not_done : (o : Outcome) → (o ≡ Done → ⊥) → is_done o ≡ false
not_done Done h = absurd (h refl)
not_done StackFull h = refl
not_done StackEmpty h = refl
not_done NoView h = refl
not_done NoBitmap h = refl
not_done OffRange h = refl
not_done Gone h = refl

pane_refused : (pictures : List Picture) (deed : Deed) (v : ℕ) (o : Option Sight) (kept : Pane) → is_done (outcome_at pictures deed o) ≡ false → kept ≡ pane_after pictures deed v o kept
unfolding pane_after outcome_at
pane_refused pictures deed v (Some sight) kept h = sym (ap (λ b. if b then pane_by pictures deed v sight kept else kept) h)
pane_refused pictures deed v None kept h = refl

ink_refused : (owned : ℤ → ℤ → Bool) (reach : Reach) (ink : Option Ink) (old : Lookup) (x y : ℤ) (c : Cell) → is_done (drawn_outcome ink) ≡ false → c ≡ inked_cell owned reach ink old x y c
ink_refused owned reach (Some ink) old x y c h = absurd (cc)
ink_refused owned reach None old x y c h = refl

deed_refused : (pictures : List Picture) (owned : ℤ → ℤ → Bool) (reach : Reach) (color : Color) (all : List Color) (deed : Deed) (old : Lookup) (x y : ℤ) (c : Cell) → is_done (deed_outcome pictures reach.stack deed) ≡ false → c ≡ cell_after pictures owned reach color all deed old x y c
deed_refused pictures owned reach color all (draws figure) old x y c h = ink_refused owned reach (ink_of pictures reach.stack.top.state figure) old x y c h
deed_refused pictures owned reach color all (sets setting) old x y c h = refl
deed_refused pictures owned reach color all (colors other) old x y c h = refl
deed_refused pictures owned reach color all saves old x y c h = refl
deed_refused pictures owned reach color all restores old x y c h = refl
deed_refused pictures owned reach color all (copies source target) old x y c h = absurd (cc)
deed_refused pictures owned reach color all (invalidates r) old x y c h = absurd (cc)

cell_refused : (pictures : List Picture) (owned : ℤ → ℤ → Bool) (all : List Color) (deed : Deed) (o : Option Sight) (old : Lookup) (x y : ℤ) (c : Cell) → is_done (outcome_at pictures deed o) ≡ false → c ≡ executed_cell pictures owned all deed o old x y c
unfolding executed_cell outcome_at
cell_refused pictures owned all deed (Some sight) old x y c h = deed_refused pictures owned sight.reach sight.color all deed old x y c h
cell_refused pictures owned all deed None old x y c h = refl

-- a command that is refused leaves the pane as it was
pub refused_stands : (pictures : List Picture) (effect : Effect) (outcome : Outcome) (pane : code.Pane) → IsWhole pane → IsJudged pictures pane effect outcome → (outcome ≡ Done → ⊥) →
    (w : ℕ) (corner : Point) (kept : Pane) (tree : Tree) (owned : ℤ → ℤ → Bool) (cells : ℤ → ℤ → Cell) (old : Lookup) → PaneStandsFor pane w corner kept tree owned cells → AgreesWith owned cells old →
    StandsAfter pictures w corner kept tree owned cells old effect pane
refused_stands pictures (at_view v deed) outcome pane whole judged refused w corner kept tree owned cells old stands agrees =
    let sight = sight_of corner tree kept v in
    let e = judged_as pictures (at_view v deed) outcome pane whole judged w corner kept tree owned cells stands in
    let no = sym (ap is_done e) ∙ not_done outcome refused in
    renamed pane w corner kept _ tree owned cells _ (pane_refused pictures deed v sight kept no) (λ x y. cell_refused pictures owned kept.colors deed sight old x y (cells x y) no) stands
refused_stands pictures (changes change) outcome pane whole judged refused w corner kept tree owned cells old stands agrees = tt
refused_stands pictures ends_update outcome pane whole judged refused w corner kept tree owned cells old stands agrees = absurd (refused judged)
