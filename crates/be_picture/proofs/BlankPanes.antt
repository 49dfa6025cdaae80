-- A new bitmap off the screen.
use Rattle.std.proofs.Common.{◌≡◌, ℕ, zero, suc, ◌+◌, ◌-◌, ◌*◌, ◌≤◌, ℤ, pos, ◌-ℤ◌, Bool}
use Rattle.std.proofs.Common.{true, false, [], ◌∷◌, Some, None}
use Rattle.std.proofs.Common.{refl, sym, ap, ◌∙◌, subst, arith}
use Rattle.std.specs.Prelude.{slice_get, if◌then◌else◌}
use Rattle.std.proofs.lemmas.Int.{ints}
use Rattle.std.proofs.lemmas.List.{get_or-replicate, length-replicate}
use Rattle.be_facts.proofs.Numbers.{plus_zero}
use Rattle.be_color.specs.declared.colors.Color.TheVariants.{Solid}
use Rattle.be_geom.specs.declared.rect.Rect.{Rect}
use Rattle.be_geom.specs.Rects.{rect_has}
use Rattle.be_pane.specs.declared.pane.Pane as code
use Rattle.be_pane.specs.Panes.{first_pane}
use Rattle.be_pane.specs.StandsFor.{IsWhole, PaneStandsFor}
use Rattle.be_region.specs.Regions.{HasPixelsOf, region_has}
use Rattle.be_span.specs.declared.Cell.{Cell}
use Rattle.be_span.specs.Screen.{cell_at}
use Rattle.be_span.specs.Spans.{Spans, black_cell, cell_in, clean_cell}
use Rattle.be_state.specs.Stacks.{origin_point}
use Rattle.be_views.specs.Resizing.{root_frame}
use Rattle.be_views.specs.Trees.{Tree, View}
use Rattle.be_views.specs.Whole.{root_view}
use Rattle.be_picture.specs.OffScreens.{IsSized, Shows, or_black}
use Rattle.be_picture.specs.Playing.{blank, bounds, white}
use Rattle.be_picture.proofs.Cells.{cell_inside, is_inside, number_fits}
use Rattle.be_picture.proofs.Shown.{cell_of}

-- ---- its frame

-- a window of this size with such cells in place of none
pub record IsFilled (w h : ℕ) (right bottom : ℤ) (pane : code.Pane) (spans : Spans) : Type 0 where
  pub sized : IsSized w h
  pub right_is : right ≡ pos w -ℤ pos 1
  pub bottom_is : bottom ≡ pos h -ℤ pos 1
  pub whole : IsWhole pane
  pub stands : PaneStandsFor pane 0 origin_point (first_pane (Solid white ∷ []))
      (root_view right bottom ∷ []) (λ x y. false) (λ x y. black_cell)
  pub pixels : HasPixelsOf spans.rects (root_frame right bottom)
  pub cells : (x y : ℤ) → cell_in spans x y
      ≡ (if region_has spans.rects x y then Some (clean_cell white) else None)

abbrev pub filled_pane : code.Pane → Spans → code.Pane
filled_pane pane spans = record pane { spans = spans }

root_is : (v root : View) (n : ℕ) (tree : Tree) → tree ≡ v ∷ [] → slice_get tree 0 ≡ Some root → root ≡ v
root_is v root n tree e h = let both : Some v ≡ Some root = ap (λ t. slice_get t 0) (sym e) ∙ h in cc

pub filled_whole : (w h : ℕ) (right bottom : ℤ) (pane : code.Pane) (spans : Spans)
    → IsFilled w h right bottom pane spans → IsWhole (filled_pane pane spans)
filled_whole w h right bottom pane spans f = record {
  colored = f.whole.colored;
  drawn = f.whole.drawn;
  within = λ x y has root there.
      let is = root_is (root_view right bottom) root 0 pane.tree f.stands.views there in
      let place = f.stands.place in
      rw (is, place, plus_zero right, plus_zero bottom) (sym (f.pixels x y) ∙ has);
}

-- ---- its pixels

same_frame : (w h : ℕ) (right bottom : ℤ) → right ≡ pos w -ℤ pos 1 → bottom ≡ pos h -ℤ pos 1
    → root_frame right bottom ≡ bounds (blank w h)
same_frame w h right bottom r b = rw (r, b) refl

abbrev white_cell : Cell
white_cell = clean_cell white

blank_cell : (w h : ℕ) (x y : ℤ) → IsSized w h → rect_has (bounds (blank w h)) x y ≡ true
    → cell_of (blank w h) x y ≡ white_cell
blank_cell w h x y sized own =
    let place = is_inside (blank w h) x y sized own in
    let all = (blank w h).cells in
    let few = number_fits w h place.column place.row place.left place.above in
    let there = cell_inside w h all place.column place.row black_cell
    (length-replicate (w * h) white_cell) place.left place.above in
    let is : cell_at w all x y ≡ Some white_cell =
    ap (λ (z : ℤ). cell_at w all z y) place.x_is
    ∙ ap (λ (z : ℤ). cell_at w all (pos place.column) z) place.y_is
    ∙ there
    ∙ ap Some (get_or-replicate (w * h) (place.row * w + place.column) white_cell black_cell few) in
    ap or_black is

pub filled_shows : (w h : ℕ) (right bottom : ℤ) (pane : code.Pane) (spans : Spans)
    → IsFilled w h right bottom pane spans → Shows (filled_pane pane spans) (blank w h)
filled_shows w h right bottom pane spans f =
    let frame = same_frame w h right bottom f.right_is f.bottom_is in
    let pixels : HasPixelsOf spans.rects (bounds (blank w h)) =
    subst (HasPixelsOf spans.rects) frame f.pixels in
    record {
      sized = f.sized;
      filled = length-replicate (w * h) white_cell;
      stands = record {
        number = f.stands.number;
        place = f.stands.place;
        pixels = pixels;
        shown = λ x y own.
            let has : region_has spans.rects x y ≡ true = pixels x y ∙ own in
            f.cells x y
            ∙ ap (λ (b : Bool). if b then Some white_cell else None) has
            ∙ ap Some (sym (blank_cell w h x y f.sized own));
        views = f.stands.views
            ∙ ap (λ (r : Rect). record (root_view right bottom) { frame = r } ∷ []) frame;
        colors = f.stands.colors;
        stacks = f.stands.stacks;
        session = f.stands.session;
        notice = f.stands.notice;
      };
    }

-- ---- numbers of the code

pub last_is : (n : ℕ) → 1 ≤ n → pos (n - 1) ≡ pos n -ℤ pos 1
last_is zero some = absurd (omega arith)
last_is (suc n) some = omega (arith, ints)
