-- A pixel after a deed, by what the deed looks at: who owns pixels, the old cells, and what clips allow.
use Rattle.std.specs.Prelude.{◌&&◌, ◌-ℤ◌, if◌then◌else◌}
use Rattle.std.proofs.Common.{◌≡◌, ℤ, Bool, true, List, Option, Some, None, inl, inr, refl, sym, ap, ◌∙◌}
use Rattle.be_facts.proofs.Truths.{true_or_false}
use Rattle.be_geom.specs.declared.point.Point.{Point}
use Rattle.be_geom.specs.declared.rect.Rect.{Rect}
use Rattle.be_geom.specs.Places.{less}
use Rattle.be_color.specs.declared.colors.Color.{Color}
use Rattle.be_bitmap.specs.Pictures.{Picture}
use Rattle.be_command.specs.Effects.{Deed, draws, sets, colors, saves, restores, copies, invalidates}
use Rattle.be_paint.specs.Copies.{copied_cell, copied_or_exposed, invalidated_cell, invalidated_in, rect_holds, way_of}
use Rattle.be_paint.specs.Inks.{Ink, laid_on_cell, painted_cell, source_at}
use Rattle.be_paint.specs.Reach.{Reach, in_drawing, in_view, in_window, is_here, is_reached, session_has}
use Rattle.be_geom.specs.Rects.{moved_rect}
use Rattle.be_pane.specs.SameStacks.{SameStack}
use Rattle.be_pane.proofs.SameLemmas.{allows_same, base_same}
use Rattle.be_span.specs.Cells.{Lookup, colored_as, exposed_cell}
use Rattle.be_span.specs.declared.Cell.{Cell}
use Rattle.be_state.specs.declared.State.{State}
use Rattle.be_state.specs.Stacks.{Stack, allows}
use Rattle.be_views.specs.Pixels.{view_at}
use Rattle.be_twin.specs.Deeds.{cell_after, ink_of, inked_cell}

-- ---- who owns pixels, and the old cells of those that are owned

reached_owned : (o p : ℤ → ℤ → Bool) (reach : Reach) (x y : ℤ) → o x y ≡ p x y → is_reached o reach x y ≡ is_reached p reach x y
unfolding is_reached
reached_owned o p reach x y h =
    ap (λ b. b && is_here reach (in_window reach x y) && allows reach.stack (in_view reach x y).x (in_view reach x y).y && session_has reach.session (in_window reach x y)) h

painted_owned : (o p : ℤ → ℤ → Bool) (reach : Reach) (ink : Ink) (old new : Lookup) (x y : ℤ) (c : Cell) → o x y ≡ p x y → painted_cell o reach ink old x y c ≡ painted_cell p reach ink new x y c
unfolding painted_cell
painted_owned o p reach ink old new x y c h =
    let s = reach.stack.top.state in
    ap (λ b. if b then laid_on_cell s c (source_at ink s (in_window reach x y) (in_drawing reach x y)) else c) (reached_owned o p reach x y h)

inked_owned : (o p : ℤ → ℤ → Bool) (reach : Reach) (ink : Option Ink) (old new : Lookup) (x y : ℤ) (c : Cell) → o x y ≡ p x y → inked_cell o reach ink old x y c ≡ inked_cell p reach ink new x y c
inked_owned o p reach (Some ink) old new x y c h = painted_owned o p reach ink old new x y c h
inked_owned o p reach None old new x y c h = refl

source_owned : (o p : ℤ → ℤ → Bool) (reach : Reach) (color : Color) (old new : Lookup) (u v : ℤ) (c : Cell) → o u v ≡ p u v → (p u v ≡ true → old u v ≡ new u v) → copied_or_exposed o reach color old u v c ≡ copied_or_exposed p reach color new u v c
source_owned o p reach color old new u v c h k =
    let here = is_here reach (in_window reach u v) in
    let e = exposed_cell color c in
    ap (λ b. if b && here then colored_as (old u v) c else e) h
    ∙ (elim (true_or_false (p u v)) [
      | inl had ↦ ap (λ (t : Option Cell). if p u v && here then colored_as t c else e) (k had)
      | inr lacks ↦ ap (λ b. if b && here then colored_as (old u v) c else e) lacks ∙ sym (ap (λ b. if b && here then colored_as (new u v) c else e) lacks)
    ])

copied_owned : (o p : ℤ → ℤ → Bool) (reach : Reach) (source : Rect) (target : Point) (color : Color) (old new : Lookup) → ((x y : ℤ) → o x y ≡ p x y) → ((x y : ℤ) → p x y ≡ true → old x y ≡ new x y) → (x y : ℤ) (c : Cell) → copied_cell o reach source target color old x y c ≡ copied_cell p reach source target color new x y c
unfolding copied_cell
copied_owned o p reach source target color old new h k x y c =
    let way = way_of source target in
    let held = rect_holds (moved_rect source way.x way.y) (in_drawing reach x y) in
    let u : ℤ = x -ℤ way.x in
    let v : ℤ = y -ℤ way.y in
    ap (λ b. if b && held then copied_or_exposed o reach color old u v c else c) (reached_owned o p reach x y (h x y))
    ∙ ap (λ (d : Cell). if is_reached p reach x y && held then d else c) (source_owned o p reach color old new u v c (h u v) (k u v))

invalidated_owned : (o p : ℤ → ℤ → Bool) (reach : Reach) (r : Rect) (all : List Color) (old new : Lookup) (x y : ℤ) (c : Cell) → o x y ≡ p x y → invalidated_cell o reach r all old x y c ≡ invalidated_cell p reach r all new x y c
unfolding invalidated_cell
invalidated_owned o p reach r all old new x y c h =
    let local = in_window reach x y in
    ap (λ b. if b && rect_holds r (in_drawing reach x y) then invalidated_in reach all (view_at reach.tree local.x local.y) c else c) h

-- the same pixels are owned, and the old cells of those are the same
pub cell_owned : (pictures : List Picture) (o p : ℤ → ℤ → Bool) (reach : Reach) (color : Color) (all : List Color) (deed : Deed) (old new : Lookup) → ((x y : ℤ) → o x y ≡ p x y) → ((x y : ℤ) → p x y ≡ true → old x y ≡ new x y) → (x y : ℤ) (c : Cell) → cell_after pictures o reach color all deed old x y c ≡ cell_after pictures p reach color all deed new x y c
cell_owned pictures o p reach color all (draws figure) old new h k x y c = inked_owned o p reach (ink_of pictures reach.stack.top.state figure) old new x y c (h x y)
cell_owned pictures o p reach color all (sets setting) old new h k x y c = refl
cell_owned pictures o p reach color all (colors other) old new h k x y c = refl
cell_owned pictures o p reach color all saves old new h k x y c = refl
cell_owned pictures o p reach color all restores old new h k x y c = refl
cell_owned pictures o p reach color all (copies source target) old new h k x y c = copied_owned o p reach source target color old new h k x y c
cell_owned pictures o p reach color all (invalidates r) old new h k x y c = invalidated_owned o p reach r all old new x y c (h x y)

-- ---- drawing states that draw alike

-- a reach with other drawing states
abbrev pub with_stack : Reach → Stack → Reach
with_stack reach s = record reach { stack = s }

reached_stack : (owned : ℤ → ℤ → Bool) (reach : Reach) (a b : Stack) → SameStack a b → (x y : ℤ) → is_reached owned (with_stack reach a) x y ≡ is_reached owned (with_stack reach b) x y
unfolding is_reached
reached_stack owned reach a b same x y =
    ap (λ t. owned x y && is_here reach (in_window reach x y) && t && session_has reach.session (in_window reach x y)) (allows_same a b same (in_view reach x y).x (in_view reach x y).y)

drawing_stack : (reach : Reach) (a b : Stack) → SameStack a b → (x y : ℤ) → in_drawing (with_stack reach a) x y ≡ in_drawing (with_stack reach b) x y
drawing_stack reach a b same x y = ap (λ p. less (in_view reach x y) p) (base_same a b same)

painted_stack : (owned : ℤ → ℤ → Bool) (reach : Reach) (a b : Stack) → SameStack a b → (ink : Ink) (old : Lookup) (x y : ℤ) (c : Cell) → painted_cell owned (with_stack reach a) ink old x y c ≡ painted_cell owned (with_stack reach b) ink old x y c
unfolding painted_cell
painted_stack owned reach a b same ink old x y c =
    let local = in_window reach x y in
    ap (λ t. if t then laid_on_cell a.top.state c (source_at ink a.top.state local (in_drawing (with_stack reach a) x y)) else c) (reached_stack owned reach a b same x y)
    ∙ ap (λ (p : Point). if is_reached owned (with_stack reach b) x y then laid_on_cell a.top.state c (source_at ink a.top.state local p) else c) (drawing_stack reach a b same x y)
    ∙ ap (λ (s : State). if is_reached owned (with_stack reach b) x y then laid_on_cell s c (source_at ink s local (in_drawing (with_stack reach b) x y)) else c) same.top.state

inked_stack : (owned : ℤ → ℤ → Bool) (reach : Reach) (a b : Stack) → SameStack a b → (ink : Option Ink) (old : Lookup) (x y : ℤ) (c : Cell) → inked_cell owned (with_stack reach a) ink old x y c ≡ inked_cell owned (with_stack reach b) ink old x y c
inked_stack owned reach a b same (Some ink) old x y c = painted_stack owned reach a b same ink old x y c
inked_stack owned reach a b same None old x y c = refl

copied_stack : (owned : ℤ → ℤ → Bool) (reach : Reach) (a b : Stack) → SameStack a b → (source : Rect) (target : Point) (color : Color) (old : Lookup) (x y : ℤ) (c : Cell) → copied_cell owned (with_stack reach a) source target color old x y c ≡ copied_cell owned (with_stack reach b) source target color old x y c
unfolding copied_cell
copied_stack owned reach a b same source target color old x y c =
    let way = way_of source target in
    let moved = moved_rect source way.x way.y in
    let d = copied_or_exposed owned reach color old (x -ℤ way.x) (y -ℤ way.y) c in
    ap (λ t. if t && rect_holds moved (in_drawing (with_stack reach a) x y) then d else c) (reached_stack owned reach a b same x y)
    ∙ ap (λ (p : Point). if is_reached owned (with_stack reach b) x y && rect_holds moved p then d else c) (drawing_stack reach a b same x y)

invalidated_stack : (owned : ℤ → ℤ → Bool) (reach : Reach) (a b : Stack) → SameStack a b → (r : Rect) (all : List Color) (old : Lookup) (x y : ℤ) (c : Cell) → invalidated_cell owned (with_stack reach a) r all old x y c ≡ invalidated_cell owned (with_stack reach b) r all old x y c
unfolding invalidated_cell
invalidated_stack owned reach a b same r all old x y c =
    let local = in_window reach x y in
    ap (λ (p : Point). if owned x y && rect_holds r p then invalidated_in reach all (view_at reach.tree local.x local.y) c else c) (drawing_stack reach a b same x y)

-- the same state, and clips of the same pixels
pub cell_stack : (pictures : List Picture) (owned : ℤ → ℤ → Bool) (reach : Reach) (a b : Stack) → SameStack a b → (color : Color) (all : List Color) (deed : Deed) (old : Lookup) (x y : ℤ) (c : Cell) → cell_after pictures owned (with_stack reach a) color all deed old x y c ≡ cell_after pictures owned (with_stack reach b) color all deed old x y c
cell_stack pictures owned reach a b same color all (draws figure) old x y c =
    ap (λ (s : State). inked_cell owned (with_stack reach a) (ink_of pictures s figure) old x y c) same.top.state
    ∙ inked_stack owned reach a b same (ink_of pictures b.top.state figure) old x y c
cell_stack pictures owned reach a b same color all (sets setting) old x y c = refl
cell_stack pictures owned reach a b same color all (colors other) old x y c = refl
cell_stack pictures owned reach a b same color all saves old x y c = refl
cell_stack pictures owned reach a b same color all restores old x y c = refl
cell_stack pictures owned reach a b same color all (copies source target) old x y c = copied_stack owned reach a b same source target color old x y c
cell_stack pictures owned reach a b same color all (invalidates r) old x y c = invalidated_stack owned reach a b same r all old x y c
