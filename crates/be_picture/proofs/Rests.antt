-- A bitmap off the screen between two pictures, and its pixels.
use Rattle.std.proofs.Common.{◌≡◌, ℕ, ℤ, Bool, true, false, List, [], ◌∷◌, length, Option}
use Rattle.std.proofs.Common.{refl, sym, ap, ◌∙◌, subst, arith}
use Rattle.std.specs.Option.{option_map}
use Rattle.be_bitmap.specs.Pictures.{Picture}
use Rattle.be_color.specs.declared.colors.Color.{Color}
use Rattle.be_command.specs.declared.Command.{Command}
use Rattle.be_geom.specs.Rects.{rect_has}
use Rattle.be_pane.specs.declared.pane.Pane as code
use Rattle.be_pane.specs.StandsFor.{IsWhole}
use Rattle.be_region.specs.Regions.{region_has}
use Rattle.be_span.specs.declared.Cell.{Cell}
use Rattle.be_span.specs.Screen.{cell_at}
use Rattle.be_span.specs.Spans.{cell_in}
use Rattle.be_span.proofs.CellLemmas.{cell_none}
use Rattle.be_state.specs.Stacks.{first_stack}
use Rattle.be_picture.specs.Laws.{IsOfOneView}
use Rattle.be_picture.specs.OffScreens.{IsAtRest, Shows, cells_of, seen_as}
use Rattle.be_picture.specs.Playing.{bounds, pixel_at, played, played_on}
use Rattle.be_picture.specs.Recording.{IsRecorded}
use Rattle.be_picture.proofs.Cells.{cell_outside}
use Rattle.be_picture.proofs.Drawing.{size_stays}
use Rattle.be_picture.proofs.Restored.{rests}
use Rattle.be_picture.proofs.Shown.{cell_there, is_at_rest, is_seen}

-- ---- playing

one_color : (colors : List Color) → length colors ≡ 1 → (color : Color) × (colors ≡ color ∷ [])
one_color [] h = absurd (omega arith)
one_color (c ∷ []) h = (c, refl)
one_color (c ∷ d ∷ cs) h = absurd (omega arith)

pub ready : (w h : ℕ) (pane : code.Pane) → IsAtRest w h pane → IsOfOneView (seen_as w h pane)
ready w h pane rest =
    let one : length pane.tree ≡ 1 = ap length rest.shows.stands.views in
    let color = one_color pane.colors.items (rest.whole.colored ∙ one) in
    record {
      color = color.0;
      stack = first_stack;
      colors = color.1;
      stacks = rest.stacks;
      none_saved = refl;
      closed = refl;
    }

pub record IsPlayed (bitmaps : List Picture) (w h : ℕ) (old new : code.Pane)
    (picture : List Command) : Type 0 where
  pub rest : IsAtRest w h new
  pub seen : seen_as w h new ≡ played_on bitmaps (seen_as w h old) picture

pub is_played : (bitmaps : List Picture) (w h : ℕ) (old new : code.Pane) (picture : List Command)
    → IsAtRest w h old → IsWhole new → IsRecorded picture
    → Shows new (played_on bitmaps (seen_as w h old) picture)
    → IsPlayed bitmaps w h old new picture
unfolding ready
is_played bitmaps w h old new picture rest whole recorded shows =
    let off = seen_as w h old in
    let after = played_on bitmaps off picture in
    let kept = rests bitmaps off picture recorded (ready w h old rest) in
    let size = size_stays bitmaps off (played picture) in
    record {
      rest =
          subst (λ (n : ℕ). IsAtRest w n new) size.1
          (subst (λ (n : ℕ). IsAtRest n after.height new) size.0
          (is_at_rest new after whole shows kept.2 kept.3));
      seen =
          ap (λ (n : ℕ). seen_as w n new) (sym size.1)
          ∙ ap (λ (n : ℕ). seen_as n after.height new) (sym size.0)
          ∙ is_seen new after shows kept.2 kept.3;
    }

-- ---- a pixel

pixel_by : (b : Bool) (w h : ℕ) (pane : code.Pane) (x y : ℤ) → IsAtRest w h pane
    → region_has pane.spans.rects x y ≡ b
    → cell_at w (cells_of w h pane.spans) x y ≡ cell_in pane.spans x y
pixel_by true w h pane x y rest has =
    let off = seen_as w h pane in
    let own : rect_has (bounds off) x y ≡ true = sym (rest.shows.stands.pixels x y) ∙ has in
    cell_there off x y rest.shows.sized rest.shows.filled own
    ∙ sym (rest.shows.stands.shown x y own)
pixel_by false w h pane x y rest has =
    let off = seen_as w h pane in
    let out : rect_has (bounds off) x y ≡ false = sym (rest.shows.stands.pixels x y) ∙ has in
    cell_outside off off.cells x y rest.shows.sized rest.shows.filled out
    ∙ sym (cell_none pane.spans x y has)

pub pixel_is : (w h : ℕ) (pane : code.Pane) (x y : ℤ) → IsAtRest w h pane
    → cell_at w (cells_of w h pane.spans) x y ≡ cell_in pane.spans x y
pixel_is w h pane x y rest = pixel_by (region_has pane.spans.rects x y) w h pane x y rest refl

pub pixel_seen : (w h : ℕ) (pane : code.Pane) (x y : ℤ) (cell : Option Cell) → IsAtRest w h pane
    → cell_in pane.spans x y ≡ cell
    → pixel_at (seen_as w h pane) x y ≡ option_map (λ c. c.rgb) cell
pixel_seen w h pane x y cell rest e =
    ap (λ (o : Option Cell). option_map (λ c. c.rgb) o) (pixel_is w h pane x y rest ∙ e)
