-- A pane that shows a bitmap off the screen, before and after a command.
use Rattle.std.proofs.Common.{◌≡◌, ℕ, ◌*◌, ◌/◌, ◌%◌, ◌<◌, ℤ, pos, Bool, true, List, []}
use Rattle.std.proofs.Common.{◌∷◌, length, get_or, Option, Some, None, refl, sym, ap, ◌∙◌, subst}
use Rattle.std.proofs.Common.{arith}
use Rattle.std.specs.Option.{option_map}
use Rattle.std.proofs.lemmas.List.{same_lists}
use Rattle.std.proofs.lemmas.List.FromFn.{get_or-map-range_with_len, length-map-range_with_len}
use Rattle.be_bitmap.specs.Pictures.{Picture}
use Rattle.be_command.specs.Effects.{Deed, at_view}
use Rattle.be_geom.specs.declared.point.Point.{Point}
use Rattle.be_geom.specs.Rects.{rect_has}
use Rattle.be_pane.specs.declared.pane.Pane as code
use Rattle.be_pane.specs.Panes.{Pane}
use Rattle.be_color.specs.declared.colors.Color.{Color}
use Rattle.be_geom.specs.declared.rect.Rect.{Rect}
use Rattle.be_pane.specs.SameStacks.{SameClip, SameLayers, SameStacks}
use Rattle.be_pane.specs.StandsFor.{IsWhole, PaneStandsFor}
use Rattle.be_span.specs.declared.Cell.{Cell}
use Rattle.be_span.specs.Screen.{cell_at}
use Rattle.be_span.specs.Spans.{black_cell, cell_in}
use Rattle.be_state.specs.declared.State.{State}
use Rattle.be_state.specs.Stacks.{Layer, Stack, first_stack, first_state, origin_point}
use Rattle.be_twin.specs.Executed.{executed_cell, sight_of}
use Rattle.be_twin.specs.StandsAfter.{AgreesWith, StandsAfter}
use Rattle.be_views.specs.Trees.{Tree}
use Rattle.be_span.proofs.EachLemmas.{ruled_length, cell_by}
use Rattle.be_picture.specs.OffScreens.{IsAtRest, IsSized, Shows, cells_of, or_black, seen_as}
use Rattle.be_picture.specs.Playing.{OffScreen, bounds, done_at, tree_of}
use Rattle.be_picture.proofs.Cells.{cell_inside, is_inside}
use Rattle.be_picture.proofs.Cells.{number_is_inside, place_of_number}

-- ---- cells

-- the cell at a pixel of the bitmap
abbrev pub cell_of : OffScreen → ℤ → ℤ → Cell
cell_of off x y = or_black (cell_at off.width off.cells x y)

found : (o : Option Cell) (c : Cell) → o ≡ Some c → o ≡ Some (or_black o)
found o c e = e ∙ ap (λ p. Some (or_black p)) (sym e)

-- inside there is one
pub cell_there : (off : OffScreen) (x y : ℤ) → IsSized off.width off.height
    → length off.cells ≡ off.width * off.height → rect_has (bounds off) x y ≡ true
    → cell_at off.width off.cells x y ≡ Some (cell_of off x y)
cell_there off x y sized filled has =
    let place = is_inside off x y sized has in
    found (cell_at off.width off.cells x y) _
    (ap (λ (z : ℤ). cell_at off.width off.cells z y) place.x_is
    ∙ ap (λ (z : ℤ). cell_at off.width off.cells (pos place.column) z) place.y_is
    ∙ cell_inside off.width off.height off.cells place.column place.row black_cell filled
    place.left place.above)

ruled : (f : Cell → Cell) (o : Option Cell) (c : Cell) → o ≡ Some c
    → or_black (option_map f o) ≡ f (or_black o)
ruled f o c e = rw e refl

-- ---- what a pane stands for depends on no cell outside

with_cells : (pane : code.Pane) (w : ℕ) (corner : Point) (kept : Pane) (tree : Tree)
    (owned : ℤ → ℤ → Bool) (cells others : ℤ → ℤ → Cell)
    → PaneStandsFor pane w corner kept tree owned cells
    → ((x y : ℤ) → owned x y ≡ true → cells x y ≡ others x y)
    → PaneStandsFor pane w corner kept tree owned others
with_cells pane w corner kept tree owned cells others stands same = record {
  number = stands.number;
  place = stands.place;
  pixels = stands.pixels;
  shown = λ x y own. stands.shown x y own ∙ ap Some (same x y own);
  views = stands.views;
  colors = stands.colors;
  stacks = stands.stacks;
  session = stands.session;
  notice = stands.notice;
}

-- ---- a command

pub agrees : (pane : code.Pane) (off : OffScreen) → Shows pane off
    → AgreesWith (rect_has (bounds off)) (cell_of off) (cell_at off.width off.cells)
agrees pane off shows x y own = cell_there off x y shows.sized shows.filled own

pub shows_after : (bitmaps : List Picture) (old new : code.Pane) (off : OffScreen) (v : ℕ)
    (deed : Deed) → Shows old off
    → StandsAfter bitmaps 0 origin_point off.pane (tree_of off) (rect_has (bounds off)) (cell_of off)
    (cell_at off.width off.cells) (at_view v deed) new
    → Shows new (done_at bitmaps off v deed)
shows_after bitmaps old new off v deed shows stands =
    let sight = sight_of origin_point (tree_of off) off.pane v in
    let rule = executed_cell bitmaps (rect_has (bounds off)) off.pane.colors deed sight in
    record {
      sized = shows.sized;
      filled = ruled_length off.width rule off.cells ∙ shows.filled;
      stands = with_cells new 0 origin_point _ (tree_of off) (rect_has (bounds off)) _
          (cell_of (done_at bitmaps off v deed)) stands
          (λ x y own. sym (
          ap or_black (cell_by off.width rule off.cells x y)
          ∙ ruled (rule (cell_at off.width off.cells) x y) (cell_at off.width off.cells x y)
          (cell_of off x y) (cell_there off x y shows.sized shows.filled own)));
    }

-- ---- what it is seen as

same_cell : (o : Option Cell) (p : Option Cell) (c : Cell) → o ≡ Some (or_black p) → p ≡ Some c
    → or_black o ≡ c
same_cell o p c e f = rw (e, f) refl

cells_are : (pane : code.Pane) (off : OffScreen) → Shows pane off
    → cells_of off.width off.height pane.spans ≡ off.cells
cells_are pane off shows =
    let w = off.width in
    let h = off.height in
    let f : ℕ → Cell = λ k. or_black (cell_in pane.spans (pos (k % w)) (pos (k / w))) in
    let len = length-map-range_with_len f 0 (w * h) in
    same_lists (cells_of w h pane.spans) off.cells (len ∙ sym shows.filled) (λ k d lt.
    let few : k < w * h = subst (λ n. k < n) len lt in
    let place = place_of_number w h k shows.sized.some_columns few in
    let own = number_is_inside off k shows.sized few in
    let there = cell_inside w h off.cells (k % w) (k / w) d shows.filled place.left place.above in
    get_or-map-range_with_len f 0 (w * h) k k d few (omega arith)
    ∙ same_cell (cell_in pane.spans (pos (k % w)) (pos (k / w))) (cell_at w off.cells (pos (k % w)) (pos (k / w)))
    (get_or off.cells k d) (shows.stands.shown (pos (k % w)) (pos (k / w)) own)
    (there ∙ ap (λ n. Some (get_or off.cells n d)) place.number))

-- states that draw as the first one does are the first one
no_clip : (o : Option (List Rect)) → SameClip o None → o ≡ None
no_clip None same = refl
no_clip (Some rects) same = absurd same

none_saved : (layers : List Layer) → SameLayers layers [] → layers ≡ []
none_saved [] same = refl
none_saved (l ∷ ls) same = absurd same

abbrev stack_of : State → Option (List Rect) → List Layer → Stack
stack_of state clip saved = record { top = record { state = state; clip = clip }; saved = saved }

first_alone : (stacks : List Stack) → SameStacks stacks (first_stack ∷ []) → stacks ≡ first_stack ∷ []
first_alone [] same = absurd same
first_alone (s ∷ []) same =
    ap (λ (state : State). stack_of state s.top.clip s.saved ∷ []) same.0.top.state
    ∙ ap (λ (clip : Option (List Rect)). stack_of first_state clip s.saved ∷ [])
    (no_clip s.top.clip same.0.top.clip)
    ∙ ap (λ (saved : List Layer). stack_of first_state None saved ∷ [])
    (none_saved s.saved same.0.saved)
first_alone (s ∷ t ∷ ss) same = absurd same.1

pub is_seen : (pane : code.Pane) (off : OffScreen) → Shows pane off
    → off.pane.stacks ≡ first_stack ∷ [] → off.pane.session ≡ None
    → seen_as off.width off.height pane ≡ off
is_seen pane off shows stacks closed =
    let first = first_alone pane.states.items (subst (SameStacks pane.states.items) stacks shows.stands.stacks) in
    seen_by off (cells_of off.width off.height pane.spans) pane.colors.items pane.states.items
    pane.notified (cells_are pane off shows) shows.stands.colors (first ∙ sym stacks) closed
    shows.stands.notice
  where
    seen_by : (off : OffScreen) (cells : List Cell) (colors : List Color) (stacks : List Stack)
        (notified : Bool) → cells ≡ off.cells → colors ≡ off.pane.colors → stacks ≡ off.pane.stacks
        → off.pane.session ≡ None → notified ≡ off.pane.notified
        → record {
          width = off.width;
          height = off.height;
          pane = record { colors = colors; stacks = stacks; session = None; notified = notified };
          cells = cells;
        } ≡ off
    seen_by off cells colors stacks notified a b c d e = rw (a, b, c, sym d, e) refl

pub is_at_rest : (pane : code.Pane) (off : OffScreen) → IsWhole pane → Shows pane off
    → off.pane.stacks ≡ first_stack ∷ [] → off.pane.session ≡ None
    → IsAtRest off.width off.height pane
is_at_rest pane off whole shows stacks closed =
    let seen = is_seen pane off shows stacks closed in
    record {
      whole = whole;
      shows = subst (Shows pane) (sym seen) shows;
      stacks = ap (λ (o : OffScreen). o.pane.stacks) seen ∙ stacks;
    }
