-- The pixels of a row, all of them in one rectangle of the region.
use Rattle.std.proofs.Common.{◌≡◌, ℕ, true, ◌+◌, ◌-◌, ◌*◌, ◌<◌, ◌≤◌, ℤ, pos, ◌+ℤ◌, ◌-ℤ◌, ◌≤ℤ◌, List, subst, arith}
use Rattle.std.proofs.lemmas.Int.{ints}
use Rattle.std.proofs.lemmas.Nat.{mul-add-lt}
use Rattle.std.proofs.lemmas.Option.{slice_get_within, get_or_from_slice_get}
use Rattle.be_geom.specs.Rects.{rect_has}
use Rattle.be_region.specs.Regions.{region_has}
use Rattle.be_facts.proofs.Numbers.{unsigned_abs_is}
use Rattle.be_geom.specs.declared.rect.Rect.{Rect}
use Rattle.be_region.specs.Bands.{AreBands}
use Rattle.be_region.specs.Regions.{IsNotEmpty}
use Rattle.be_span.specs.Spans.{SpanAt, area_of, place_in}
use Rattle.be_span.specs.Runs.{HasRun, IsInside, IsSpanOf}
use Rattle.be_span.proofs.GridLemmas.{IsIn, has_from, in_from, wide_is, high_is}
use Rattle.be_span.proofs.LaidLemmas.{rect_inside}

-- the n pixels from (x, y) on to the right are in the rectangle
pub record IsRowIn (r : Rect) (x y : ℤ) (n : ℕ) : Type 0 where
  pub left : r.left ≤ℤ x
  pub right : (x +ℤ pos n) ≤ℤ (r.right +ℤ pos 1)
  pub top : r.top ≤ℤ y
  pub bottom : y ≤ℤ r.bottom

pub inside : (r : Rect) (x y : ℤ) (n k : ℕ) → IsRowIn r x y n → k < n → IsIn r (x +ℤ pos k) y
inside r x y n k row less =
    let left = row.left in
    let right = row.right in
    record { left = omega (arith, ints); right = omega (arith, ints); top = row.top; bottom = row.bottom }

pub first_in : (r : Rect) (x y : ℤ) (n k : ℕ) → IsRowIn r x y n → k < n → IsIn r x y
first_in r x y n k row less =
    let left = row.left in
    let right = row.right in
    record { left = left; right = omega (arith, ints); top = row.top; bottom = row.bottom }

-- no rectangle of the region is empty
pub span_some : (rs : List Rect) (span : SpanAt) → AreBands rs → IsSpanOf rs span → IsNotEmpty span.rect
span_some rs span bands of =
    subst IsNotEmpty (get_or_from_slice_get rs of.place span.rect span.rect of.there) (bands.none_empty of.place span.rect (slice_get_within rs of.place span.rect of.there))

row_below : (r : Rect) (x y : ℤ) (n row column width height : ℕ) → IsRowIn r x y n → pos row ≡ y -ℤ r.top → pos column ≡ x -ℤ r.left → pos width ≡ r.right -ℤ r.left +ℤ pos 1 → pos height ≡ r.bottom -ℤ r.top +ℤ pos 1 → 0 < width → row * width + column + n ≤ height * width
row_below r x y n row column width height h a b c d some =
    let left = h.left in let right = h.right in let top = h.top in let bottom = h.bottom in
    let low : row < height = omega (arith, ints) in
    let few : column + n ≤ width = omega (arith, ints) in
    below row width column n height low few some
  where
    below : (a w b n h : ℕ) → a < h → b + n ≤ w → 0 < w → a * w + b + n ≤ h * w
    below a w b n h p q s = let less = mul-add-lt a w (b + n - 1) h p (omega arith) in omega arith

pub row_within : (r : Rect) (x y : ℤ) (n : ℕ) → IsNotEmpty r → IsRowIn r x y n → place_in r x y + n ≤ area_of r
unfolding place_in area_of
row_within r x y n some row =
    let left = row.left in
    let top = row.top in
    let wide = wide_is r some.across in
    let across = some.across in
    row_below r x y n _ _ _ _ row (unsigned_abs_is (y -ℤ r.top) (omega (arith, ints))) (unsigned_abs_is (x -ℤ r.left) (omega (arith, ints))) wide (high_is r some.down) (omega (arith, ints))

-- pixels of a span are the region's
pub span_run : (rs : List Rect) (span : SpanAt) (x y : ℤ) (n : ℕ) → IsSpanOf rs span → IsRowIn span.rect x y n → HasRun rs x y n
span_run rs span x y n of row k less =
    rect_inside rs of.place span.rect (x +ℤ pos k) y of.there (has_from span.rect (x +ℤ pos k) y (inside span.rect x y n k row less))

pub rect_in_span : (rs : List Rect) (span : SpanAt) (r : Rect) → IsSpanOf rs span → IsInside r span.rect → (x y : ℤ) → rect_has r x y ≡ true → region_has rs x y ≡ true
rect_in_span rs span r of inner x y has =
    let at = in_from r x y has in
    let left = at.left in let right = at.right in let top = at.top in let bottom = at.bottom in
    let l = inner.left in let rt = inner.right in let t = inner.top in let b = inner.bottom in
    rect_inside rs of.place span.rect x y of.there (has_from span.rect x y record { left = omega (arith, ints); right = omega (arith, ints); top = omega (arith, ints); bottom = omega (arith, ints) })
