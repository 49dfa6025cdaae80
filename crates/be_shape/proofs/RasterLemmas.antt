-- From the rows and runs of a fill, a frame and a line to those of a shape.
use Rattle.std.proofs.Common.{◌≡◌, ℕ, ℤ, pos, Bool, false, ◌+ℤ◌, Option, Some, None, IfSome, IfNone, sym, ◌∙◌, refl, arith}
use Rattle.std.proofs.lemmas.Int.{ints}
use Rattle.std.proofs.lemmas.Bool.{and_from}
use Rattle.be_facts.proofs.Truths.{and_second}
use Rattle.be_geom.specs.declared.point.Point.{Point}
use Rattle.be_geom.specs.declared.rect.Rect.{Rect}
use Rattle.be_geom.specs.Points.{between}
use Rattle.be_geom.specs.Rects.{rect_has}
use Rattle.be_geom.proofs.Between.{is_between}
use Rattle.be_shape.specs.declared.Raster.{Raster}
use Rattle.be_shape.specs.declared.Raster.TheVariants.{Fill, Frame, Line}
use Rattle.be_shape.specs.declared.row.Span.{Span}
use Rattle.be_shape.specs.Rasters.{line_has, frame_has, is_not_empty, raster_has}
use Rattle.be_shape.specs.Runs.{HasNoPixel, AreRows, IsNextRun}
use Rattle.be_shape.specs.Rows.{IsSpan, AreEdges, ArePenRows, IsNextSpan, AreSpanRows, span_has, swept_has}
use Rattle.be_shape.proofs.BetweenLemmas.{not_below, not_above}
use Rattle.be_shape.proofs.RowLemmas.{no_rows_no_pixel}
use Rattle.be_shape.proofs.LineLemmas.{line_in_rows, pixel_of_row}
use Rattle.be_shape.proofs.FrameLemmas.{in_frame_rows, pixel_of_frame_row}

-- ---- a fill

pub fill_rows : (r : Rect) (rows : Span) → AreEdges r rows → AreRows (Fill r) rows.first rows.last
unfolding raster_has
fill_rows r rows edges =
    let first = edges.first_is in
    let last = edges.last_is in
    let across = edges.across in
    let down = edges.down in
    record {
      forward = omega (arith, ints);
      each =
          λ y h k. (r.left, and_from (between r.left r.left r.right) (between r.top y r.bottom) (is_between r.left r.left r.right (omega (arith, ints)) across) (is_between r.top y r.bottom (omega (arith, ints)) (omega (arith, ints))));
      within =
          λ x y h.
          let inside = and_second (between r.left x r.right) (between r.top y r.bottom) h in
          let low = not_below r.top y r.bottom inside in
          let high = not_above r.top y r.bottom inside in
          (omega (arith, ints), omega (arith, ints));
    }

pub empty_fill : (r : Rect) → is_not_empty r ≡ false → HasNoPixel (Fill r)
unfolding raster_has
empty_fill r h x y = no_rows_no_pixel r h x y

-- ---- a frame

pub frame_rows : (r : Rect) (size : ℕ) (rows : Span) → ArePenRows size r rows → AreRows (Frame r size) rows.first rows.last
unfolding raster_has
frame_rows r size rows pen =
    record {
      forward = pen.sound.forward;
      each = λ y h k. pixel_of_frame_row r size y pen.across pen.down (sym (pen.all y) ∙ is_between rows.first y rows.last h k);
      within =
          λ x y h.
          let inside = pen.all y ∙ in_frame_rows r size x y pen.across pen.down h in
          (not_below rows.first y rows.last inside, not_above rows.first y rows.last inside);
    }

pub empty_frame : (r : Rect) (size : ℕ) → is_not_empty r ≡ false → HasNoPixel (Frame r size)
unfolding raster_has
empty_frame r size h x y = rw h refl

-- ---- a line

pub line_rows : (from to : Point) (size : ℕ) (rows : Span) → IsSpan rows → ((z : ℤ) → span_has rows z ≡ swept_has size from.y to.y z) → AreRows (Line from to size) rows.first rows.last
unfolding raster_has
line_rows from to size rows sound all =
    record {
      forward = sound.forward;
      each = λ y h k. pixel_of_row from to size y (sym (all y) ∙ is_between rows.first y rows.last h k);
      within =
          λ x y h.
          let inside = all y ∙ line_in_rows from to size x y h in
          (not_below rows.first y rows.last inside, not_above rows.first y rows.last inside);
    }

-- ---- runs

pub next_run_of : (r : Raster) (y from : ℤ) (has : ℤ → Bool) (s : Span) → ((x : ℤ) → has x ≡ raster_has r x y) → IsNextSpan has from s → IsNextRun r y from s.first s.last
next_run_of r y from has s same next =
    record {
      ahead = next.ahead;
      passed = λ x h k. sym (same x) ∙ next.passed x h k;
      forward = next.sound.forward;
      within = λ x h k. sym (same x) ∙ next.within x h k;
      ended = sym (same (s.last +ℤ pos 1)) ∙ next.ended;
    }

-- ---- of a shape that is known to be a fill, a frame or a line

pub fill_is : (shape : Raster) (r : Rect) (x y : ℤ) → shape ≡ Fill r → rect_has r x y ≡ raster_has shape x y
unfolding raster_has
fill_is shape r x y e = rw e refl

pub frame_is : (shape : Raster) (r : Rect) (size : ℕ) (x y : ℤ) → shape ≡ Frame r size → frame_has r size x y ≡ raster_has shape x y
unfolding raster_has
frame_is shape r size x y e = rw e refl

pub line_is : (shape : Raster) (from to : Point) (size : ℕ) (x y : ℤ) → shape ≡ Line from to size → line_has from to size x y ≡ raster_has shape x y
unfolding raster_has
line_is shape from to size x y e = rw e refl

pub fill_none : (shape : Raster) (r : Rect) (o : Option Span) → shape ≡ Fill r → IfNone o (is_not_empty r ≡ false) → IfNone o (HasNoPixel shape)
fill_none shape r (Some rows) e h = tt
fill_none shape r None e h = rw e (empty_fill r h)

pub fill_some : (shape : Raster) (r : Rect) (o : Option Span) → shape ≡ Fill r → IfSome o (AreEdges r) → IfSome o (AreSpanRows shape)
fill_some shape r None e h = tt
fill_some shape r (Some rows) e h = rw e (record { sound = h.sound; all = fill_rows r rows h })

pub frame_none : (shape : Raster) (r : Rect) (size : ℕ) (o : Option Span) → shape ≡ Frame r size → IfNone o (is_not_empty r ≡ false) → IfNone o (HasNoPixel shape)
frame_none shape r size (Some rows) e h = tt
frame_none shape r size None e h = rw e (empty_frame r size h)

pub frame_some : (shape : Raster) (r : Rect) (size : ℕ) (o : Option Span) → shape ≡ Frame r size → IfSome o (ArePenRows size r) → IfSome o (AreSpanRows shape)
frame_some shape r size None e h = tt
frame_some shape r size (Some rows) e h = rw e (record { sound = h.sound; all = frame_rows r size rows h })

pub line_some : (shape : Raster) (from to : Point) (size : ℕ) (rows : Span) → shape ≡ Line from to size → IsSpan rows → ((z : ℤ) → span_has rows z ≡ swept_has size from.y to.y z) → AreSpanRows shape rows
line_some shape from to size rows e sound all = rw e (record { sound = sound; all = line_rows from to size rows sound all })
