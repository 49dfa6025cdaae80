-- Rows of a rectangle, and the next run of a row.
use Rattle.std.proofs.Common.{◌≡◌, ℤ, pos, false, ◌+ℤ◌, ◌≤ℤ◌, ◌<ℤ◌, Option, Some, None, IfSome, IfNone, ◌∙◌, inl, inr, refl, arith}
use Rattle.std.proofs.lemmas.Int.{ints, clamps, by_lt_z}
use Rattle.be_facts.proofs.Truths.{or_false}
use Rattle.be_geom.specs.declared.rect.Rect.{Rect}
use Rattle.be_geom.specs.Rects.{HasNoPixel}
use Rattle.be_geom.proofs.RectLemmas.{corner_inside, reversed_edges}
use Rattle.be_geom.proofs.Between.{is_between, is_below, is_above}
use Rattle.be_shape.specs.declared.row.Row.{Row}
use Rattle.be_shape.specs.declared.row.Row.TheVariants.{One, Two}
use Rattle.be_shape.specs.declared.row.Span.{Span}
use Rattle.be_shape.specs.Rasters.{is_not_empty}
use Rattle.be_shape.specs.Rows.{IsSpan, IsPair, IsRow, span_has, row_has, IsCut, IsNextSpan, NoneFrom}

-- ---- the rows of a rectangle

pub no_pixel_no_rows : (r : Rect) → HasNoPixel r → is_not_empty r ≡ false
no_pixel_no_rows r h =
    by_lt_z r.right r.left
    (λ across. grind (arith, ints))
    (λ across. by_lt_z r.bottom r.top (λ down. grind (arith, ints)) (λ down. cc (h r.left r.top, corner_inside r across down)))

pub is_across : (r : Rect) → ¬ HasNoPixel r → r.left ≤ℤ r.right
is_across r h = by_lt_z r.right r.left (λ less. absurd (h (reversed_edges r (inl less)))) (λ order. order)

pub is_down : (r : Rect) → ¬ HasNoPixel r → r.top ≤ℤ r.bottom
is_down r h = by_lt_z r.bottom r.top (λ less. absurd (h (reversed_edges r (inr less)))) (λ order. order)

pub no_rows_no_pixel : (r : Rect) → is_not_empty r ≡ false → HasNoPixel r
no_rows_no_pixel r h =
    by_lt_z r.right r.left
    (λ less. reversed_edges r (inl less))
    (λ across. by_lt_z r.bottom r.top (λ less. reversed_edges r (inr less)) (λ down. absurd (grind (arith, ints))))

-- ---- the next run

none_one : (s : Span) (from : ℤ) → s.last <ℤ from → NoneFrom (row_has (One s)) from
none_one s from h x k = is_above s.first x s.last (omega (arith, ints))

next_one : (s : Span) (from : ℤ) (run : Span) → IsSpan s → IsCut s from run → IsNextSpan (row_has (One s)) from run
next_one s from run sound cut =
    let first = cut.first_is in
    let last = cut.last_is in
    let ahead = cut.ahead in
    record {
      sound = record { low = omega (arith, ints, clamps); forward = omega (arith, ints, clamps); high = omega (arith, ints, clamps) };
      ahead = omega (arith, ints, clamps);
      passed = λ x h k. is_below s.first x s.last (omega (arith, ints, clamps));
      within = λ x h k. is_between s.first x s.last (omega (arith, ints, clamps)) (omega (arith, ints, clamps));
      ended = is_above s.first (run.last +ℤ pos 1) s.last (omega (arith, ints, clamps));
    }

-- before the right one of two spans a row is as the left one
as_left : (left right : Span) (x : ℤ) → x <ℤ right.first → row_has (Two left right) x ≡ span_has left x
as_left left right x h = rw (is_below right.first x right.last h) (or_false (span_has left x))

-- behind the left one it is as the right one
as_right : (left right : Span) (x : ℤ) → left.last <ℤ x → row_has (Two left right) x ≡ span_has right x
as_right left right x h = rw (is_above left.first x left.last h) refl

next_left : (left right : Span) (from : ℤ) (run : Span) → IsPair left right → IsCut left from run → IsNextSpan (row_has (Two left right)) from run
next_left left right from run pair cut =
    let one = next_one left from run pair.left_sound cut in
    let last = cut.last_is in
    let forward = one.sound.forward in
    let apart = pair.apart in
    record {
      sound = one.sound;
      ahead = one.ahead;
      passed = λ x h k. as_left left right x (omega (arith, ints, clamps)) ∙ one.passed x h k;
      within = λ x h k. as_left left right x (omega (arith, ints)) ∙ one.within x h k;
      ended = as_left left right (run.last +ℤ pos 1) (omega (arith, ints)) ∙ one.ended;
    }

next_right : (left right : Span) (from : ℤ) (run : Span) → IsPair left right → left.last <ℤ from → IsCut right from run → IsNextSpan (row_has (Two left right)) from run
next_right left right from run pair behind cut =
    let one = next_one right from run pair.right_sound cut in
    let ahead = one.ahead in
    let forward = one.sound.forward in
    record {
      sound = one.sound;
      ahead = one.ahead;
      passed = λ x h k. as_right left right x (omega (arith, ints)) ∙ one.passed x h k;
      within = λ x h k. as_right left right x (omega (arith, ints)) ∙ one.within x h k;
      ended = as_right left right (run.last +ℤ pos 1) (omega (arith, ints)) ∙ one.ended;
    }

-- ---- of a row that is known to have one span or two

pub one_none : (row : Row) (s : Span) (from : ℤ) (cut : Option Span) → row ≡ One s → IfNone cut (s.last <ℤ from) → IfNone cut (NoneFrom (row_has row) from)
one_none row s from (Some run) e h = tt
one_none row s from None e h = rw e (none_one s from h)

pub one_some : (row : Row) (s : Span) (from : ℤ) (cut : Option Span) → row ≡ One s → IsRow row → IfSome cut (IsCut s from) → IfSome cut (IsNextSpan (row_has row) from)
one_some row s from None e sound h = tt
one_some row s from (Some run) e sound h = rw e (next_one s from run (rw e at sound) h)

pub left_some : (row : Row) (left right : Span) (from : ℤ) (cut : Option Span) → row ≡ Two left right → IsRow row → IfSome cut (IsCut left from) → IfSome cut (IsNextSpan (row_has row) from)
left_some row left right from None e sound h = tt
left_some row left right from (Some run) e sound h = rw e (next_left left right from run (rw e at sound) h)

pub right_none : (row : Row) (left right : Span) (from : ℤ) (cut : Option Span) → row ≡ Two left right → left.last <ℤ from → IfNone cut (right.last <ℤ from) → IfNone cut (NoneFrom (row_has row) from)
right_none row left right from (Some run) e behind h = tt
right_none row left right from None e behind h =
    rw e (λ x k. as_right left right x (omega (arith, ints)) ∙ is_above right.first x right.last (omega (arith, ints)))

pub right_some : (row : Row) (left right : Span) (from : ℤ) (cut : Option Span) → row ≡ Two left right → IsRow row → left.last <ℤ from → IfSome cut (IsCut right from) → IfSome cut (IsNextSpan (row_has row) from)
right_some row left right from None e sound behind h = tt
right_some row left right from (Some run) e sound behind h = rw e (next_right left right from run (rw e at sound) behind h)
