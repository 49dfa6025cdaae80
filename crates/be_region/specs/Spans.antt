-- The spans of a band that is being made (this project's own).
use Rattle.std.specs.Prelude.{◌≡◌, ℤ, pos, ◌+ℤ◌, ◌-ℤ◌, ◌≤◌, ◌≤ℤ◌, ◌<ℤ◌, Bool, not, List, [], ◌∷◌}
use Rattle.std.specs.Prelude.{◌++◌, length, take, drop, map, All}
use Rattle.std.specs.List.{list_any}
use Rattle.be_geom.specs.declared.rect.Rect.{Rect}
use Rattle.be_geom.specs.Points.{between}
use Rattle.be_region.specs.declared.span.Span.{Span}
use Rattle.be_region.specs.declared.bands.Bands.{Bands}
use Rattle.be_region.specs.Regions.{region_has}
use Rattle.be_region.specs.Bands.{AreBands}
use Rattle.be_region.specs.Rows.{AreAbove}

-- the column is in some span
abbrev pub spans_have : List Span → ℤ → Bool
spans_have spans x = list_any (λ s. between s.left x s.right) spans

-- the columns of a rectangle
abbrev pub span_of : Rect → Span
span_of r = record { left = r.left; right = r.right }

-- the spans lie between two columns, in order, none is empty, and no two touch
abbrev pub AreWithin : ℤ → List Span → ℤ → Type 0
AreWithin low [] high = low <ℤ high
AreWithin low (s ∷ spans) high =
    (low <ℤ s.left) × (s.left ≤ℤ s.right) × AreWithin (s.right +ℤ pos 1) spans high

-- spans in order, none empty, of which no two touch
abbrev pub AreSpans : List Span → Type 0
AreSpans spans = (low : ℤ) × ((high : ℤ) × AreWithin low spans high)

-- ---- bands being made

-- the span in the rows from top to bottom
abbrev pub rect_of : ℤ → ℤ → Span → Rect
rect_of top bottom s = record { left = s.left; top = top; right = s.right; bottom = bottom }

-- the spans in the rows from top to bottom
abbrev pub rects_of : List Span → ℤ → ℤ → List Rect
rects_of spans top bottom = map (rect_of top bottom) spans

-- the rectangles that stay
abbrev pub kept_of : Bands → List Rect
kept_of b = take b.kept b.rects.items

-- the rectangles of the bands that are done
abbrev pub done_of : Bands → List Rect
done_of b = drop b.kept b.rects.items

-- the rectangles of all bands, the last among them
abbrev pub bands_of : Bands → List Rect
bands_of b = done_of b ++ rects_of b.spans.items b.top b.bottom

-- the bands that are done, and the last one, which may still grow
pub record AreOpenBands (b : Bands) : Type 0 where
  pub kept : b.kept ≤ length b.rects.items
  pub done : AreBands (done_of b)
  pub above : AreAbove b.top (done_of b)
  pub down : b.top ≤ℤ b.bottom
  pub apart : AreSpans b.spans.items
  pub first : b.spans.items ≡ [] → done_of b ≡ []
  pub differs : All (λ s. (x : ℤ)
      × (region_has (done_of b) x (b.top -ℤ pos 1) ≡ not (spans_have b.spans.items x)))
      b.spans.items
