-- What is painted in the columns of a row, a run at a time.
use Rattle.std.proofs.Common.{◌≡◌, ℤ, ◌-ℤ◌, Bool, false, ◌&&◌, ◌||◌, sym, ap, ◌∙◌, subst}
use Rattle.be_geom.specs.declared.rect.Rect.{Rect}
use Rattle.be_geom.specs.Rects.{rect_has}
use Rattle.be_shape.specs.Rows.{row_has, span_has, IsPair, IsRow}
use Rattle.be_shape.specs.declared.row.Row.{Row}
use Rattle.be_shape.specs.declared.row.Row.TheVariants.{One, Two}
use Rattle.be_shape.specs.declared.row.Span.{Span}
use Rattle.be_span.specs.Spans.{Spans}
use Rattle.be_span.specs.Painting.{Rule, IsPainted}
use Rattle.be_descent.proofs.HullLemmas.{pair_apart}
use Rattle.be_descent.proofs.PaintLemmas.{both_painted, none_painted, same_painted}
use Rattle.be_descent.proofs.RegionLemmas.{and_joined, none_more, not_other, one_or_other}

-- the pixels of an area that a run has, which lies so far to the right, and at which another test
-- says so
abbrev pub in_run : Rect → Span → ℤ → (ℤ → ℤ → Bool) → ℤ → ℤ → Bool
in_run area run by at x y = rect_has area x y && (span_has run (x -ℤ by) && at x y)

-- those that a row has
abbrev pub in_row : Rect → Row → ℤ → (ℤ → ℤ → Bool) → ℤ → ℤ → Bool
in_row area row by at x y = rect_has area x y && (row_has row (x -ℤ by) && at x y)

pub run_painted : (rule : Rule) (area part : Rect) (run : Span) (by : ℤ) (at : ℤ → ℤ → Bool)
    (old new : Spans)
    → ((x y : ℤ) → rect_has part x y ≡ (rect_has area x y && span_has run (x -ℤ by)))
    → IsPainted rule (λ x y. rect_has part x y && at x y) old new
    → IsPainted rule (in_run area run by at) old new
run_painted rule area part run by at old new both =
    same_painted rule (λ x y. rect_has part x y && at x y) (in_run area run by at) old new
    (λ x y. ap (λ b. b && at x y) (both x y)
    ∙ and_joined (rect_has area x y) (span_has run (x -ℤ by)) (at x y))

pub no_run : (rule : Rule) (area : Rect) (run : Span) (by : ℤ) (at : ℤ → ℤ → Bool) (s : Spans)
    → ((x y : ℤ) → (rect_has area x y && span_has run (x -ℤ by)) ≡ false)
    → IsPainted rule (in_run area run by at) s s
no_run rule area run by at s none =
    none_painted rule (in_run area run by at) s
    (λ x y. none_more (rect_has area x y) (span_has run (x -ℤ by)) (at x y) (none x y))

pub one_run : (rule : Rule) (area : Rect) (row : Row) (run : Span) (by : ℤ) (at : ℤ → ℤ → Bool)
    (old new : Spans) → row ≡ One run → IsPainted rule (in_run area run by at) old new
    → IsPainted rule (in_row area row by at) old new
one_run rule area row run by at old new is =
    subst (λ (r : Row). IsPainted rule (in_row area r by at) old new) (sym is)

pub two_runs : (rule : Rule) (area : Rect) (row : Row) (left right : Span) (by : ℤ)
    (at : ℤ → ℤ → Bool) (old mid new : Spans) → row ≡ Two left right → IsRow row
    → IsPainted rule (in_run area left by at) old mid
    → IsPainted rule (in_run area right by at) mid new
    → IsPainted rule (in_row area row by at) old new
two_runs rule area row left right by at old mid new is whole first second =
    let pair : IsPair left right = subst IsRow is whole in
    subst (λ (r : Row). IsPainted rule (in_row area r by at) old new) (sym is)
    (same_painted rule (λ x y. in_run area left by at x y || in_run area right by at x y)
    (in_row area (Two left right) by at) old new
    (λ x y. one_or_other (rect_has area x y) (span_has left (x -ℤ by)) (span_has right (x -ℤ by))
    (at x y))
    (both_painted rule (in_run area left by at) (in_run area right by at) old mid new
    (λ x y. not_other (rect_has area x y) (span_has left (x -ℤ by)) (span_has right (x -ℤ by))
    (at x y) (pair_apart left right (x -ℤ by) pair)) first second))
