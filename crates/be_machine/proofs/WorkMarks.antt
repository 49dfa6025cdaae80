-- Which rules of pixels leave a window clean that was clean, and what becomes of the panes' share.
use Rattle.std.proofs.Common.{◌≡◌, ℕ, ◌+◌, ◌≤◌, Bool, true, false, List, Option, Some, None, refl, ap, subst, ◌∙◌, arith}
use Rattle.std.specs.Prelude.{ℤ, pos, ◌/◌, ◌%◌, ◌==◌, ◌&&◌, not, slice_get, if◌then◌else◌}
use Rattle.be_facts.proofs.Truths.{and_false}
use Rattle.be_facts.proofs.Numbers.{eq_self}
use Rattle.be_bitmap.specs.Pictures.{Picture}
use Rattle.be_color.specs.declared.colors.Color.{Color}
use Rattle.be_command.specs.Effects.{Deed, draws, sets, colors, saves, restores, copies, invalidates}
use Rattle.be_command.specs.Limits.{is_drawing_deed}
use Rattle.be_desk.specs.Changes.{Desk, owns, still, own_cell, cell_of, changed_cell}
use Rattle.be_geom.specs.declared.change.Change.TheVariants.{Focus}
use Rattle.be_geom.specs.Numbers.{is_number}
use Rattle.be_paint.specs.Inks.{Ink, painted_cell, laid_on_cell, source_at}
use Rattle.be_paint.specs.Reach.{Reach, is_reached, in_window, in_drawing}
use Rattle.be_pane.specs.Panes.{Pane}
use Rattle.be_script.specs.Script.{Declared}
use Rattle.be_script.specs.Work.{update_cost}
use Rattle.be_span.specs.Cells.{Lookup}
use Rattle.be_span.specs.declared.Cell.{Cell}
use Rattle.be_span.specs.Screen.{each_cell, cell_at}
use Rattle.be_stack.specs.Owner.{owner_at}
use Rattle.be_state.specs.declared.State.{State}
use Rattle.be_paint.proofs.PaintLemmas.{mark_left}
use Rattle.be_twin.specs.Deeds.{ink_of, inked_cell, cell_after}
use Rattle.be_twin.specs.Executed.{Sight, executed_cell, is_done, pane_by, pane_after}
use Rattle.be_twin.specs.Deeds.{deed_outcome}
use Rattle.be_update.specs.Sessions.{is_any, dirty_pixels, cleaned_cell, with_notice}
use Rattle.be_machine.specs.Lists.{at}
use Rattle.be_machine.proofs.WorkDirt.{KeepsClean, still_clean, none_from}
use Rattle.be_machine.proofs.WorkWeights.{weight_at, weight_at_there}
use Rattle.be_machine.specs.Shares.{dirt, dirt_share, is_dirty}

-- ---- drawing keeps marks

painted_if : (b : Bool) (s : State) (c : Cell) (o : Option Color) → (if b then laid_on_cell s c o else c).dirty ≡ c.dirty
painted_if true s c o = mark_left s c o
painted_if false s c o = refl

inked_mark : (owned : ℤ → ℤ → Bool) (reach : Reach) (o : Option Ink) (old : Lookup) (x y : ℤ) (c : Cell) → (inked_cell owned reach o old x y c).dirty ≡ c.dirty
unfolding painted_cell
inked_mark owned reach (Some ink) old x y c = painted_if (is_reached owned reach x y) reach.stack.top.state c (source_at ink reach.stack.top.state (in_window reach x y) (in_drawing reach x y))
inked_mark owned reach None old x y c = refl

deed_mark : (pictures : List Picture) (owned : ℤ → ℤ → Bool) (reach : Reach) (color : Color) (all : List Color) (deed : Deed) (old : Lookup) (x y : ℤ) (c : Cell) → is_drawing_deed deed ≡ true → (cell_after pictures owned reach color all deed old x y c).dirty ≡ c.dirty
deed_mark pictures owned reach color all (draws figure) old x y c h = inked_mark owned reach (ink_of pictures reach.stack.top.state figure) old x y c
deed_mark pictures owned reach color all (sets setting) old x y c h = refl
deed_mark pictures owned reach color all (colors new) old x y c h = refl
deed_mark pictures owned reach color all saves old x y c h = refl
deed_mark pictures owned reach color all restores old x y c h = refl
deed_mark pictures owned reach color all (copies source target) old x y c h = cc
deed_mark pictures owned reach color all (invalidates r) old x y c h = cc

executed_mark : (pictures : List Picture) (owned : ℤ → ℤ → Bool) (all : List Color) (deed : Deed) (o : Option Sight) (old : Lookup) (x y : ℤ) (c : Cell) → is_drawing_deed deed ≡ true → (executed_cell pictures owned all deed o old x y c).dirty ≡ c.dirty
unfolding executed_cell
executed_mark pictures owned all deed (Some sight) old x y c h = deed_mark pictures owned sight.reach sight.color all deed old x y c h
executed_mark pictures owned all deed None old x y c h = refl

-- a rule that keeps every mark
mark_kept : (owned : ℤ → ℤ → Bool) (rule : Lookup → ℤ → ℤ → Cell → Cell) → ((old : Lookup) (x y : ℤ) (c : Cell) → (rule old x y c).dirty ≡ c.dirty) → KeepsClean owned owned rule
mark_kept owned rule h old x y c e = subst (λ b. (b && owned x y) ≡ true) (h old x y c) e

pub drawing_keeps : (pictures : List Picture) (desk : Desk) (w u : ℕ) (all : List Color) (deed : Deed) (o : Option Sight) (screen : List Cell) → is_drawing_deed deed ≡ true → is_dirty desk (each_cell desk.windows.width (executed_cell pictures (owns desk w) all deed o) screen) u ≡ true → is_dirty desk screen u ≡ true
unfolding is_dirty
drawing_keeps pictures desk w u all deed o screen h e =
    still_clean desk.windows.width (owns desk u) (owns desk u) (executed_cell pictures (owns desk w) all deed o) screen
    (mark_kept (owns desk u) (executed_cell pictures (owns desk w) all deed o) (λ old x y c. executed_mark pictures (owns desk w) all deed o old x y c h)) e

-- ---- an update's begin cleans

cleaned_if : (b : Bool) (c : Cell) → ((if b then record c { dirty = false } else c).dirty && b) ≡ false
cleaned_if true c = refl
cleaned_if false c = and_false c.dirty

pub cleaned_none : (desk : Desk) (w : ℕ) (screen : List Cell) → is_dirty desk (each_cell desk.windows.width (cleaned_cell (owns desk w)) screen) w ≡ false
unfolding is_dirty dirty_pixels each_cell
cleaned_none desk w screen = none_from desk.windows.width 0 (owns desk w) (λ k c. cleaned_cell (owns desk w) (cell_at desk.windows.width screen) (pos (k % desk.windows.width)) (pos (k / desk.windows.width)) c) screen (λ i c. cleaned_if (owns desk w (pos (i % desk.windows.width)) (pos (i / desk.windows.width))) c)

cleaned_more : (a b : Bool) (c : Cell) → ((if a then record c { dirty = false } else c).dirty && b) ≡ true → (c.dirty && b) ≡ true
cleaned_more true b c e = cc
cleaned_more false b c e = e

pub cleaned_keeps : (desk : Desk) (w u : ℕ) (screen : List Cell) → is_dirty desk (each_cell desk.windows.width (cleaned_cell (owns desk w)) screen) u ≡ true → is_dirty desk screen u ≡ true
unfolding is_dirty
cleaned_keeps desk w u screen e =
    still_clean desk.windows.width (owns desk u) (owns desk u) (cleaned_cell (owns desk w)) screen (λ old x y c k. cleaned_more (owns desk w x y) (owns desk u x y) c k) e

-- ---- a focus changes no pixel

still_cell : (before after : Desk) (all : List (List Color)) (w t : ℕ) (old : Lookup) (x y : ℤ) (c : Cell) (b : Bool) → (t == w) ≡ b → owner_at before.windows x y ≡ Some t → (if b then own_cell before after all w still old x y c else own_cell before after all t still old x y c) ≡ c
still_cell before after all w t old x y c true e owner =
    let mine : owns before w x y ≡ true = ap (is_number w) owner ∙ e in
    rw mine refl
still_cell before after all w t old x y c false e owner =
    let mine : owns before t x y ≡ true = ap (is_number t) owner ∙ eq_self t in
    rw mine refl

focus_cell : (before after : Desk) (all : List (List Color)) (w u : ℕ) (old : Lookup) (x y : ℤ) (c : Cell) (o : Option ℕ) → owner_at before.windows x y ≡ o → ((cell_of before after all w still o old x y c).dirty && is_number u o) ≡ true → (c.dirty && is_number u o) ≡ true
focus_cell before after all w u old x y c None owner e = cc
focus_cell before after all w u old x y c (Some t) owner e =
    let same : cell_of before after all w still (Some t) old x y c ≡ c = still_cell before after all w t old x y c (t == w) refl owner in
    subst (λ z. (z.dirty && (t == u)) ≡ true) same e

focus_clean : (before after : Desk) (all : List (List Color)) (w u : ℕ) (view : Option ℕ) → after.windows ≡ before.windows → KeepsClean (owns before u) (owns after u) (changed_cell before after all w (Focus view))
unfolding changed_cell
focus_clean before after all w u view same old x y c e =
    let owner : owner_at after.windows x y ≡ owner_at before.windows x y = ap (λ s. owner_at s x y) same in
    focus_cell before after all w u old x y c (owner_at before.windows x y) refl (subst (λ o. ((cell_of before after all w still o old x y c).dirty && is_number u o) ≡ true) owner e)

pub focus_keeps : (before after : Desk) (all : List (List Color)) (w u : ℕ) (view : Option ℕ) (screen : List Cell) → after.windows ≡ before.windows → is_dirty after (each_cell before.windows.width (changed_cell before after all w (Focus view)) screen) u ≡ true → is_dirty before screen u ≡ true
unfolding is_dirty
focus_keeps before after all w u view screen same e =
    let width : after.windows.width ≡ before.windows.width = ap (λ s. s.width) same in
    still_clean before.windows.width (owns before u) (owns after u) (changed_cell before after all w (Focus view)) screen (focus_clean before after all w u view same)
    (subst (λ n. is_any (dirty_pixels n (owns after u) (each_cell before.windows.width (changed_cell before after all w (Focus view)) screen)) ≡ true) width e)

-- ---- panes

-- a pane with its notice as before
pub panes_quiet : (d : Declared) (desk : Desk) (screen : List Cell) (panes : List Pane) (w : ℕ) (f : Pane → Pane) → ((pane : Pane) → (f pane).notified ≡ pane.notified) → dirt_share d desk screen (at panes w f) ≤ dirt_share d desk screen panes
unfolding dirt_share
panes_quiet d desk screen panes w f same = omega (arith, weight_at (λ v pane. dirt (update_cost d v) (is_dirty desk screen v) pane) panes w 0 f (λ pane. let is : dirt (update_cost d w) (is_dirty desk screen w) (f pane) ≡ dirt (update_cost d w) (is_dirty desk screen w) pane = ap (λ b. if is_dirty desk screen w && not b then update_cost d w else 0) (same pane) in omega (arith, is)))

clean_dirt : (cost : ℕ) (b : Bool) (pane : Pane) → b ≡ false → dirt cost b pane ≡ 0
clean_dirt cost b pane e = rw e refl

-- a pane of a window that is clean
pub panes_clean : (d : Declared) (desk : Desk) (screen : List Cell) (panes : List Pane) (w : ℕ) (f : Pane → Pane) → is_dirty desk screen w ≡ false → dirt_share d desk screen (at panes w f) ≤ dirt_share d desk screen panes
unfolding dirt_share
panes_clean d desk screen panes w f clean = omega (arith, weight_at (λ v pane. dirt (update_cost d v) (is_dirty desk screen v) pane) panes w 0 f (λ pane. omega (arith, clean_dirt (update_cost d w) (is_dirty desk screen w) (f pane) clean)))

dirt_all : (cost : ℕ) (b : Bool) (pane : Pane) → b ≡ true → pane.notified ≡ false → dirt cost b pane ≡ cost
dirt_all cost b pane e h = rw (e, h) refl

dirt_none : (cost : ℕ) (b : Bool) (pane : Pane) → dirt cost b (with_notice pane) ≡ 0
dirt_none cost true pane = refl
dirt_none cost false pane = refl

-- a notice that is posted
pub panes_noticed : (d : Declared) (desk : Desk) (screen : List Cell) (panes : List Pane) (w : ℕ) (pane : Pane) → slice_get panes w ≡ Some pane → is_dirty desk screen w ≡ true → pane.notified ≡ false → dirt_share d desk screen (at panes w with_notice) + update_cost d w ≡ dirt_share d desk screen panes
unfolding dirt_share
panes_noticed d desk screen panes w pane read dirty still_quiet = omega (
  arith,
  weight_at_there (λ v x. dirt (update_cost d v) (is_dirty desk screen v) x) panes w with_notice pane read,
  dirt_all (update_cost d w) (is_dirty desk screen w) pane dirty still_quiet,
  dirt_none (update_cost d w) (is_dirty desk screen w) pane,
)

executed_if : (b : Bool) (changed pane : Pane) → changed.notified ≡ pane.notified → (if b then changed else pane).notified ≡ pane.notified
executed_if true changed pane e = e
executed_if false changed pane e = refl

pub pane_after_quiet : (pictures : List Picture) (deed : Deed) (v : ℕ) (o : Option Sight) (pane : Pane) → (pane_after pictures deed v o pane).notified ≡ pane.notified
unfolding pane_after
pane_after_quiet pictures deed v (Some sight) pane = executed_if (is_done (deed_outcome pictures sight.reach.stack deed)) (pane_by pictures deed v sight pane) pane refl
pane_after_quiet pictures deed v None pane = refl
