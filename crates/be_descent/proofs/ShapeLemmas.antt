-- A shape is painted by its rows, from the first one on.
use Rattle.std.proofs.Common.{◌≡◌, ℤ, pos, ◌+ℤ◌, ◌-ℤ◌, ◌≤ℤ◌, ◌<ℤ◌, Bool, true, false, ◌&&◌, List}
use Rattle.std.proofs.Common.{refl, sym, ap, ◌∙◌, subst, arith}
use Rattle.std.proofs.lemmas.Bool.{and_parts}
use Rattle.std.proofs.lemmas.Int.{ints}
use Rattle.be_geom.specs.declared.rect.Rect.{Rect}
use Rattle.be_geom.specs.Points.{between}
use Rattle.be_geom.specs.Rects.{rect_has}
use Rattle.be_geom.proofs.Between.{is_between}
use Rattle.be_region.specs.Frames.{IsFrame}
use Rattle.be_region.specs.Regions.{region_has, HasNone}
use Rattle.be_shape.specs.declared.Raster.{Raster}
use Rattle.be_span.specs.Spans.{Spans}
use Rattle.be_descent.specs.Inks.{shape_has, AreRowsIn}
use Rattle.be_span.specs.Painting.{Rule, IsPainted}
use Rattle.be_descent.specs.declared.way.Way.{Way}
use Rattle.be_descent.proofs.PaintLemmas.{none_painted}
use Rattle.be_descent.proofs.RegionLemmas.{band_painted, in_columns, no_row_yet, none_from}
use Rattle.be_descent.proofs.RegionLemmas.{none_in_region, none_shaped, region_painted, whole_rows}

-- the pixels of a shape, which lies that way, at which another test says so
abbrev pub in_shape : Raster → Way → (ℤ → ℤ → Bool) → ℤ → ℤ → Bool
in_shape raster way at x z = shape_has raster way x z && at x z

-- those from a first row up to the one before another
abbrev pub in_rows : ℤ → ℤ → Raster → Way → (ℤ → ℤ → Bool) → ℤ → ℤ → Bool
in_rows first y raster way at x z =
    between first z (y -ℤ pos 1) && (shape_has raster way x z && at x z)

pub no_frame : (rule : Rule) (test : ℤ → ℤ → Bool) (s : Spans) (rects : List Rect)
    → rects ≡ s.rects → HasNone rects → IsPainted rule test s s
no_frame rule test s rects is none =
    none_in_region rule test s (none_from s.rects test (subst HasNone is none))

pub no_shape : (rule : Rule) (raster : Raster) (way : Way) (at : ℤ → ℤ → Bool) (s : Spans)
    (rects : List Rect) (frame : Rect) → rects ≡ s.rects → IsFrame frame rects
    → ((x z : ℤ) → (rect_has frame x z && shape_has raster way x z) ≡ false)
    → IsPainted rule (in_shape raster way at) s s
no_shape rule raster way at s rects frame is whole none =
    none_in_region rule (in_shape raster way at) s (λ x z has.
    none_shaped (rect_has frame x z) (shape_has raster way x z) (at x z)
    ((subst (IsFrame frame) is whole).holds x z has) (none x z))

pub rows_begin : (rule : Rule) (raster : Raster) (way : Way) (at : ℤ → ℤ → Bool) (s : Spans)
    (first y : ℤ) → y ≡ first → IsPainted rule (in_rows first y raster way at) s s
rows_begin rule raster way at s first y is =
    none_painted rule (in_rows first y raster way at) s
    (λ x z. no_row_yet first y z (in_shape raster way at x z) is)

pub rows_go_on : (rule : Rule) (raster : Raster) (way : Way) (at : ℤ → ℤ → Bool)
    (old mid new : Spans) (rects : List Rect) (frame rows : Rect) (y stop next : ℤ)
    → rects ≡ old.rects → IsFrame frame rects → AreRowsIn raster way frame rows → rows.top ≤ℤ y
    → y ≤ℤ stop → next ≡ stop +ℤ pos 1
    → IsPainted rule (in_rows rows.top y raster way at) old mid
    → IsPainted rule (λ x z. (between rows.left x rows.right && between y z stop)
    && (shape_has raster way x z && at x z)) mid new
    → IsPainted rule (in_rows rows.top next raster way at) old new
rows_go_on rule raster way at old mid new rects frame rows y stop next is whole sides from to one
    above below =
    let here = subst (IsFrame frame) (is ∙ sym above.region) whole in
    let columns : (x z : ℤ) → region_has mid.rects x z ≡ true
    → between rows.left x rows.right ≡ true = λ x z has.
    ap (λ (e : ℤ). between e x rows.right) sides.left
    ∙ ap (λ (e : ℤ). between frame.left x e) sides.right
    ∙ (and_parts (between frame.left x frame.right) (between frame.top z frame.bottom)
    (here.holds x z has)).0 in
    band_painted rule (λ x z. z) rows.top y stop next (in_shape raster way at) old mid new from
    (omega (arith, ints, to)) one above
    (region_painted rule
    (λ x z. (between rows.left x rows.right && between y z stop) && in_shape raster way at x z)
    (λ x z. between y z stop && in_shape raster way at x z) mid new
    (λ x z has. in_columns (between rows.left x rows.right) (between y z stop)
    (shape_has raster way x z) (shape_has raster way x z) (at x z) (columns x z has)
    (λ it. refl)) below)

pub rows_end : (rule : Rule) (raster : Raster) (way : Way) (at : ℤ → ℤ → Bool) (old new : Spans)
    (rects : List Rect) (frame rows : Rect) (y : ℤ) → rects ≡ old.rects → IsFrame frame rects
    → AreRowsIn raster way frame rows → rows.bottom <ℤ y
    → IsPainted rule (in_rows rows.top y raster way at) old new
    → IsPainted rule (in_shape raster way at) old new
rows_end rule raster way at old new rects frame rows y is whole sides past =
    region_painted rule (in_rows rows.top y raster way at) (in_shape raster way at) old new
    (λ x z has. whole_rows (between rows.top z (y -ℤ pos 1)) (shape_has raster way x z) (at x z)
    (λ it.
    let inside = sides.within x z ((subst (IsFrame frame) is whole).holds x z has) it in
    let low = inside.0 in
    let high = inside.1 in
    is_between rows.top z (y -ℤ pos 1) low (omega (arith, ints, high, past))))
