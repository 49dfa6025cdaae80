-- The pixels of a line between two of its rows are in columns between those of the two.
use Rattle.std.proofs.Common.{◌≡◌, ℕ, ℤ, pos, ◌+ℤ◌, ◌-ℤ◌, ◌-◌, ◌/◌, ◌≤◌, ◌≤ℤ◌, ◌<ℤ◌}
use Rattle.std.proofs.Common.{true, ◌⊎◌, inl, inr, unsigned_abs, Bool, false, ◌||◌, subst}
use Rattle.std.proofs.Common.{◌∙◌, arith}
use Rattle.std.specs.Int.{int_max, int_min}
use Rattle.std.proofs.lemmas.Bool.{cases_lt, or_right, or_left}
use Rattle.std.proofs.lemmas.Int.{ints, by_lt_z, clamps}
use Rattle.be_facts.proofs.Truths.{or_either}
use Rattle.be_geom.specs.declared.point.Point.{Point}
use Rattle.be_geom.specs.declared.rect.Rect.{Rect}
use Rattle.be_geom.specs.Rects.{rect_has}
use Rattle.be_geom.proofs.Between.{is_below, is_between}
use Rattle.be_shape.specs.Rasters.{line_at, line_has, pen_covers, raster_has, steps_of}
use Rattle.be_shape.specs.Runs.{HasPixelOfRow}
use Rattle.be_shape.specs.declared.Raster.{Raster}
use Rattle.be_shape.specs.declared.Raster.TheVariants.{Fill, Frame, Line}
use Rattle.be_shape.specs.Rows.{row_has, span_has, IsPair, IsRow}
use Rattle.be_shape.specs.declared.row.Row.{Row}
use Rattle.be_shape.specs.declared.row.Row.TheVariants.{Two}
use Rattle.be_shape.specs.declared.row.Span.{Span}
use Rattle.be_shape.proofs.BetweenLemmas.{not_above, not_below}
use Rattle.be_shape.proofs.LineLemmas.{covered_of_line, line_of_covered, near_across, near_down}
use Rattle.be_shape.proofs.ShareLemmas.{share_mono}
use Rattle.be_shape.proofs.WayLemmas.{at_down, at_up}
use Rattle.be_span.proofs.GridLemmas.{in_from}
use Rattle.be_descent.specs.declared.way.Way.{Way}
use Rattle.be_descent.specs.Inks.{shape_has, IsLine}

-- ---- along a line

rises : (i j n : ℕ) (from to : ℤ) → from ≤ℤ to → i ≤ j → j ≤ n → unsigned_abs (to -ℤ from) ≤ n
    → line_at i n from to ≤ℤ line_at j n from to
rises i j n from to up less of near =
    let a = at_up i n from to up (omega (arith, less, of)) near in
    let b = at_up j n from to up of near in
    let more = share_mono i j n (unsigned_abs (to -ℤ from)) less in
    omega (arith, ints, a, b, more)

falls : (i j n : ℕ) (from to : ℤ) → to <ℤ from → i ≤ j → line_at j n from to ≤ℤ line_at i n from to
falls i j n from to down less =
    let a = at_down i n from to down in
    let b = at_down j n from to down in
    let more = share_mono i j n (unsigned_abs (to -ℤ from)) less in
    omega (arith, ints, a, b, more)

abbrev column_of : Point → Point → ℕ → ℤ
column_of from to i = line_at i (steps_of from to) from.x to.x

abbrev row_of : Point → Point → ℕ → ℤ
row_of from to i = line_at i (steps_of from to) from.y to.y

-- a point further down is further right, or where it is
abbrev GoesRight : Point → Point → Type 0
GoesRight from to = (i j : ℕ) → i ≤ steps_of from to → j ≤ steps_of from to
    → row_of from to i <ℤ row_of from to j → column_of from to i ≤ℤ column_of from to j

-- it is further left, or where it is
abbrev GoesLeft : Point → Point → Type 0
GoesLeft from to = (i j : ℕ) → i ≤ steps_of from to → j ≤ steps_of from to
    → row_of from to i <ℤ row_of from to j → column_of from to j ≤ℤ column_of from to i

down_after : (from to : Point) (i j : ℕ) → from.y ≤ℤ to.y → i ≤ steps_of from to
    → row_of from to i <ℤ row_of from to j → i ≤ j
down_after from to i j up of less =
    elim (cases_lt j i) [
      | inl before ↦
          let back = rises j i (steps_of from to) from.y to.y up (omega (arith, before)) of
          (near_down from to) in
          absurd (omega (arith, ints, back, less))
      | inr is ↦ is
    ]

down_before : (from to : Point) (i j : ℕ) → to.y <ℤ from.y
    → row_of from to i <ℤ row_of from to j → j ≤ i
down_before from to i j down less =
    elim (cases_lt i j) [
      | inl before ↦
          let back = falls i j (steps_of from to) from.y to.y down (omega (arith, before)) in
          absurd (omega (arith, ints, back, less))
      | inr is ↦ is
    ]

goes : (from to : Point) → GoesRight from to ⊎ GoesLeft from to
goes from to =
    by_lt_z to.y from.y
    (λ up. by_lt_z to.x from.x
    (λ left. inl (λ i j m n less. falls j i (steps_of from to) from.x to.x left
    (down_before from to i j up less)))
    (λ right. inr (λ i j m n less. rises j i (steps_of from to) from.x to.x right
    (down_before from to i j up less) m (near_across from to))))
    (λ down. by_lt_z to.x from.x
    (λ left. inr (λ i j m n less. falls i j (steps_of from to) from.x to.x left
    (down_after from to i j down m less)))
    (λ right. inl (λ i j m n less. rises i j (steps_of from to) from.x to.x right
    (down_after from to i j down m less) n (near_across from to))))

-- ---- what the pen covers at a point

-- the pen covers a number at another one
record IsUnder (size : ℕ) (at z : ℤ) : Type 0 where
  low : (at -ℤ pos ((size - 1) / 2)) ≤ℤ z
  high : z ≤ℤ (at -ℤ pos ((size - 1) / 2) +ℤ pos (size - 1))

under : (size : ℕ) (at z : ℤ) → pen_covers size at z ≡ true → IsUnder size at z
under size at z h = record { low = not_below _ z _ h; high = not_above _ z _ h }

covers : (size : ℕ) (at z : ℤ) → IsUnder size at z → pen_covers size at z ≡ true
covers size at z h = is_between _ z _ h.low h.high

-- a point of the line covers a pixel
record Covers (from to : Point) (size i : ℕ) (x y : ℤ) : Type 0 where
  of : i ≤ steps_of from to
  across : IsUnder size (column_of from to i) x
  down : IsUnder size (row_of from to i) y

covered : (from to : Point) (size : ℕ) (x y : ℤ) → line_has from to size x y ≡ true
    → (i : ℕ) × Covers from to size i x y
covered from to size x y has =
    let point = covered_of_line from to size x y has in (
      point.0,
      record {
        of = point.1;
        across = under size (column_of from to point.0) x point.2;
        down = under size (row_of from to point.0) y point.3;
      },
    )

on_line : (from to : Point) (size i : ℕ) (x y : ℤ) → Covers from to size i x y
    → line_has from to size x y ≡ true
on_line from to size i x y h =
    line_of_covered from to size x y
    (i, h.of, covers size (column_of from to i) x h.across, covers size (row_of from to i) y h.down)

-- the line has the pixel's column in a row further down, or the point of that row is further down
below : (from to : Point) (size i j : ℕ) (x y p z : ℤ) → y ≤ℤ z → Covers from to size i x y
    → Covers from to size j p z
    → (line_has from to size x z ≡ true) ⊎ (row_of from to i <ℤ row_of from to j)
below from to size i j x y p z down one other =
    let a = one.down.low in
    let b = other.down.high in
    by_lt_z (row_of from to i) (row_of from to j) (λ less. inr less)
    (λ from_there. inl (on_line from to size i x z record {
      of = one.of;
      across = one.across;
      down = record { low = omega (arith, ints); high = omega (arith, ints) };
    }))

above : (from to : Point) (size i j : ℕ) (x y p z : ℤ) → z ≤ℤ y → Covers from to size i x y
    → Covers from to size j p z
    → (line_has from to size x z ≡ true) ⊎ (row_of from to j <ℤ row_of from to i)
above from to size i j x y p z up one other =
    let a = one.down.high in
    let b = other.down.low in
    by_lt_z (row_of from to j) (row_of from to i) (λ less. inr less)
    (λ from_there. inl (on_line from to size i x z record {
      of = one.of;
      across = one.across;
      down = record { low = omega (arith, ints); high = omega (arith, ints) };
    }))

-- ---- columns

-- the run has the columns of a row of the line
abbrev pub HasColumnsOf : Point → Point → ℕ → ℤ → Span → Type 0
HasColumnsOf from to size y run =
    (x : ℤ) → line_has from to size x y ≡ true → span_has run x ≡ true

-- where a point covers a pixel of a row, all that its pen covers across is in the run
reaches : (from to : Point) (size i : ℕ) (x y z : ℤ) (run : Span)
    → HasColumnsOf from to size y run → Covers from to size i x y
    → IsUnder size (column_of from to i) z → span_has run z ≡ true
reaches from to size i x y z run has point under =
    has z (on_line from to size i z y record {
      of = point.of;
      across = under;
      down = point.down;
    })

-- what is covered no further right than by that point is no further right than the run
not_right : (from to : Point) (size i j : ℕ) (x y p z : ℤ) (run : Span)
    → HasColumnsOf from to size z run → Covers from to size i x y → Covers from to size j p z
    → column_of from to i ≤ℤ column_of from to j → x ≤ℤ run.last
not_right from to size i j x y p z run has one other less =
    let here = one.across.high in
    let at = column_of from to j -ℤ pos ((size - 1) / 2) +ℤ pos (size - 1) in
    let most = not_above run.first at run.last (reaches from to size j p z at run has other
    record { low = omega (arith, ints); high = omega (arith, ints) }) in
    omega (arith, ints)

not_left : (from to : Point) (size i j : ℕ) (x y p z : ℤ) (run : Span)
    → HasColumnsOf from to size z run → Covers from to size i x y → Covers from to size j p z
    → column_of from to j ≤ℤ column_of from to i → run.first ≤ℤ x
not_left from to size i j x y p z run has one other less =
    let here = one.across.low in
    let at = column_of from to j -ℤ pos ((size - 1) / 2) in
    let least = not_below run.first at run.last (reaches from to size j p z at run has other
    record { low = omega (arith, ints); high = omega (arith, ints) }) in
    omega (arith, ints)

-- some pixel of the row is on the line
abbrev pub HasRow : Point → Point → ℕ → ℤ → Type 0
HasRow from to size y = (x : ℤ) × (line_has from to size x y ≡ true)

-- a run with the columns of two rows of a line has those of each row between them
pub between_rows : (from to : Point) (size : ℕ) (run : Span) (top bottom x y : ℤ)
    → top ≤ℤ y → y ≤ℤ bottom → HasRow from to size top → HasRow from to size bottom
    → HasColumnsOf from to size top run → HasColumnsOf from to size bottom run
    → line_has from to size x y ≡ true → span_has run x ≡ true
between_rows from to size run top bottom x y low high first last in_top in_bottom has =
    let i = covered from to size x y has in
    let t = covered from to size first.0 top first.1 in
    let b = covered from to size last.0 bottom last.1 in
    elim (below from to size i.0 b.0 x y last.0 bottom high i.1 b.1) [
      | inl here ↦ in_bottom x here
      | inr less ↦
          elim (above from to size i.0 t.0 x y first.0 top low i.1 t.1) [
            | inl here ↦ in_top x here
            | inr more ↦
                elim (goes from to) [
                  | inl right ↦ is_between run.first x run.last
                      (not_left from to size i.0 t.0 x y first.0 top run in_top i.1 t.1
                      (right t.0 i.0 t.1.of i.1.of more))
                      (not_right from to size i.0 b.0 x y last.0 bottom run in_bottom i.1 b.1
                      (right i.0 b.0 i.1.of b.1.of less))
                  | inr left ↦ is_between run.first x run.last
                      (not_left from to size i.0 b.0 x y last.0 bottom run in_bottom i.1 b.1
                      (left i.0 b.0 i.1.of b.1.of less))
                      (not_right from to size i.0 t.0 x y first.0 top run in_top i.1 t.1
                      (left t.0 i.0 t.1.of i.1.of more))
                ]
          ]
    ]

-- the same of a shape that is a line
pub line_between : (line : Raster) (run : Span) (top bottom x y : ℤ) → IsLine line → top ≤ℤ y
    → y ≤ℤ bottom → HasPixelOfRow line top → HasPixelOfRow line bottom
    → ((x : ℤ) → raster_has line x top ≡ true → span_has run x ≡ true)
    → ((x : ℤ) → raster_has line x bottom ≡ true → span_has run x ≡ true)
    → raster_has line x y ≡ true → span_has run x ≡ true
unfolding raster_has
line_between (Fill r) run top bottom x y is low high first last in_top in_bottom has = absurd is
line_between (Frame r size) run top bottom x y is low high first last in_top in_bottom has =
    absurd is
line_between (Line from to size) run top bottom x y is low high first last in_top in_bottom has =
    between_rows from to size run top bottom x y low high first last in_top in_bottom has

-- ---- the ends of a row

pub ends_hold : (row : Row) (left right : Span) (x : ℤ) → row ≡ Two left right → IsRow row
    → row_has row x ≡ true → span_has record { first = left.first; last = right.last } x ≡ true
ends_hold row left right x is sound has =
    let pair : IsPair left right = subst IsRow is sound in
    let gap = pair.apart in
    let low = pair.left_sound.forward in
    let high = pair.right_sound.forward in
    let one : (span_has left x || span_has right x) ≡ true = subst (λ (r : Row). row_has r x ≡ true)
    is has in
    elim (or_either (span_has left x) (span_has right x) one) [
      | inl e ↦
          let a = not_below left.first x left.last e in
          let b = not_above left.first x left.last e in
          is_between left.first x right.last a (omega (arith, ints, b, gap, high))
      | inr e ↦
          let a = not_below right.first x right.last e in
          let b = not_above right.first x right.last e in
          is_between left.first x right.last (omega (arith, ints, a, gap, low)) b
    ]

-- two runs of which the one ends before the other begins
pub pair_apart : (left right : Span) (z : ℤ) → IsPair left right → span_has left z ≡ true
    → span_has right z ≡ false
pair_apart left right z pair has =
    let gap = pair.apart in
    let most = not_above left.first z left.last has in
    is_below right.first z right.last (omega (arith, ints, gap, most))

-- a run round two others
pub round_holds : (a b run : Span) (p q : Bool) (x : ℤ) → run.first ≡ int_min a.first b.first
    → run.last ≡ int_max a.last b.last → (p ≡ true → span_has a x ≡ true)
    → (q ≡ true → span_has b x ≡ true) → (p || q) ≡ true → span_has run x ≡ true
round_holds a b run p q x first last f g has =
    elim (or_either p q has) [
      | inl e ↦
          let low = not_below a.first x a.last (f e) in
          let high = not_above a.first x a.last (f e) in
          is_between run.first x run.last (omega (arith, ints, clamps, first, low))
          (omega (arith, ints, clamps, last, high))
      | inr e ↦
          let low = not_below b.first x b.last (g e) in
          let high = not_above b.first x b.last (g e) in
          is_between run.first x run.last (omega (arith, ints, clamps, first, low))
          (omega (arith, ints, clamps, last, high))
    ]

-- a run that has the columns of the first and of the last row of an area has those of all its rows
pub line_held : (line : Raster) (area : Rect) (way : Way) (one other : Row) (run : Span)
    → IsLine line → HasPixelOfRow line (area.top -ℤ way.down)
    → HasPixelOfRow line (area.bottom -ℤ way.down)
    → ((x : ℤ) → row_has one x ≡ raster_has line x (area.top -ℤ way.down))
    → ((x : ℤ) → row_has other x ≡ raster_has line x (area.bottom -ℤ way.down))
    → ((x : ℤ) → (row_has one x || row_has other x) ≡ true → span_has run x ≡ true)
    → (x y : ℤ) → rect_has area x y ≡ true → shape_has line way x y ≡ true
    → span_has run (x -ℤ way.right) ≡ true
line_held line area way one other run it top bottom first last some x y has is =
    let i = in_from area x y has in
    let low = i.top in
    let high = i.bottom in
    line_between line run (area.top -ℤ way.down) (area.bottom -ℤ way.down) (x -ℤ way.right)
    (y -ℤ way.down) it (omega (arith, ints)) (omega (arith, ints)) top bottom
    (λ z e. some z (or_left (row_has one z) (row_has other z) (first z ∙ e)))
    (λ z e. some z (or_right (row_has one z) (row_has other z) (last z ∙ e))) is
