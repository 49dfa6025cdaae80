-- Pixels side by side in a row (this project's own).
use Rattle.std.specs.Prelude.{◌≡◌, ◌<◌, ◌⊎◌, ℕ, ℤ, pos, ◌+ℤ◌, ◌≤ℤ◌, ◌<ℤ◌, true, false}
use Rattle.std.specs.Prelude.{List, slice_get, Some}
use Rattle.be_geom.specs.declared.rect.Rect.{Rect}
use Rattle.be_region.specs.Regions.{region_has}
use Rattle.be_span.specs.Spans.{SpanAt}

-- each of the n pixels from (x, y) on to the right is in the region
abbrev pub HasRun : List Rect → ℤ → ℤ → ℕ → Type 0
HasRun rs x y n = (k : ℕ) → k < n → region_has rs (x +ℤ pos k) y ≡ true

-- (z, w) is none of the n pixels from (x, y) on to the right
abbrev pub IsBeside : ℤ → ℤ → ℕ → ℤ → ℤ → Type 0
IsBeside x y n z w = (w ≡ y → ⊥) ⊎ (z <ℤ x) ⊎ ((x +ℤ pos n) ≤ℤ z)

-- so many pixels from one on to the right are in the region, and the one behind them isn't
pub record IsRunFrom (rs : List Rect) (x y : ℤ) (count : ℕ) : Type 0 where
  pub some : 0 < count
  pub has : HasRun rs x y count
  pub ends : region_has rs (x +ℤ pos count) y ≡ false

-- it is a rectangle of the region
pub record IsSpanOf (rs : List Rect) (span : SpanAt) : Type 0 where
  pub place : ℕ
  pub there : slice_get rs place ≡ Some span.rect

-- one rectangle has pixels, all of them in another
pub record IsInside (inner outer : Rect) : Type 0 where
  pub left : outer.left ≤ℤ inner.left
  pub across : inner.left ≤ℤ inner.right
  pub right : inner.right ≤ℤ outer.right
  pub top : outer.top ≤ℤ inner.top
  pub down : inner.top ≤ℤ inner.bottom
  pub bottom : inner.bottom ≤ℤ outer.bottom
