-- What a pane's spans have is what its slice has.
use Rattle.std.proofs.Common.{◌≡◌, ℕ, ◌+◌, ◌<◌, Bool, true, false, List, Option, Some, None, refl, sym, ap, ◌∙◌, arith, pos, ◌+ℤ◌, ◌≤ℤ◌}
use Rattle.std.specs.Prelude.{ℤ, unwrap_or}
use Rattle.std.proofs.lemmas.Int.{ints}
use Rattle.be_geom.specs.declared.rect.Rect.{Rect}
use Rattle.be_pane.specs.declared.pane.Pane.{Pane}
use Rattle.be_parts.specs.Stands.{PaneIs, is_there}
use Rattle.be_region.specs.Regions.{region_has}
use Rattle.be_region.specs.Runs.{IsRun}
use Rattle.be_rules.specs.Slices.{Slice, desk, input, cell, looper, port, link, pane, look_at}
use Rattle.be_span.specs.Cells.{desktop_cell}
use Rattle.be_span.specs.Spans.{cell_in}
use Rattle.be_span.specs.declared.Cell.{Cell}
use Rattle.be_shown.specs.Pixels.{pixel_in}

none_there : (o : Option Cell) → is_there o ≡ false → o ≡ None
none_there (Some c) e = absurd (cc)
none_there None e = refl

there_is : (o : Option Cell) → is_there o ≡ true → o ≡ Some (unwrap_or o desktop_cell)
there_is (Some c) e = refl
there_is None e = absurd (cc)

-- outside its spans the slice has no pixel
pub none_by : (slice : Slice) (p : Pane) (x y : ℤ) → PaneIs slice p → region_has p.spans.rects x y ≡ false → pixel_in slice x y ≡ None
none_by (pane w shown) p x y is out = none_there (look_at shown.width shown.cells x y) (sym (is.stands.pixels x y) ∙ out)
none_by (desk d) p x y is out = refl
none_by (input n b) p x y is out = refl
none_by (cell m a) p x y is out = refl
none_by (looper w l b) p x y is out = refl
none_by (port w q) p x y is out = refl
none_by (link w l) p x y is out = refl

-- and in them it has the same cell
pub cell_by : (slice : Slice) (p : Pane) (x y : ℤ) → PaneIs slice p → region_has p.spans.rects x y ≡ true → pixel_in slice x y ≡ cell_in p.spans x y
cell_by (pane w shown) p x y is inside =
    let mine : is_there (look_at shown.width shown.cells x y) ≡ true = sym (is.stands.pixels x y) ∙ inside in
    there_is (look_at shown.width shown.cells x y) mine ∙ sym (is.stands.shown x y mine)
cell_by (desk d) p x y is inside = absurd is
cell_by (input n b) p x y is inside = absurd is
cell_by (cell m a) p x y is inside = absurd is
cell_by (looper w l b) p x y is inside = absurd is
cell_by (port w q) p x y is inside = absurd is
cell_by (link w l) p x y is inside = absurd is

pub has_by : (slice : Slice) (p : Pane) (x y : ℤ) → PaneIs slice p → region_has p.spans.rects x y ≡ true → pixel_in slice x y ≡ None → ⊥
has_by (pane w shown) p x y is inside none =
    let mine : is_there (look_at shown.width shown.cells x y) ≡ true = sym (is.stands.pixels x y) ∙ inside in
    let gone : is_there (look_at shown.width shown.cells x y) ≡ false = ap is_there none in
    cc
has_by (desk d) p x y is inside none = is
has_by (input n b) p x y is inside none = is
has_by (cell m a) p x y is inside none = is
has_by (looper w l b) p x y is inside none = is
has_by (port w q) p x y is inside none = is
has_by (link w l) p x y is inside none = is

-- as far as a run without pixels goes there is none in the slice
pub none_run : (slice : Slice) (p : Pane) (rects : List Rect) (x y n k : ℕ) (column row last : ℤ) (answer : Bool) → PaneIs slice p → rects ≡ p.spans.rects → column ≡ pos x → row ≡ pos y → answer ≡ region_has rects column row → answer ≡ false → IsRun (λ z. region_has rects z row) column last → (column +ℤ pos n) ≡ last → k < n + 1 → pixel_in slice (pos (x + k)) (pos y) ≡ None
none_run slice p rects x y n k column row last answer is rects_are at_column at_row told out run ends lt =
    let low : column ≤ℤ pos (x + k) = omega (arith, ints) in
    let high : pos (x + k) ≤ℤ last = omega (arith, ints) in
    let outside : region_has p.spans.rects (pos (x + k)) (pos y) ≡ false =
    ap (λ r. region_has r (pos (x + k)) (pos y)) (sym rects_are)
    ∙ ap (region_has rects (pos (x + k))) (sym at_row)
    ∙ run.same (pos (x + k)) low high
    ∙ sym told
    ∙ out
    in
    none_by slice p (pos (x + k)) (pos y) is outside
