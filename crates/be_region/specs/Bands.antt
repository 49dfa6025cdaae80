-- In which rectangles a set of pixels is kept: spans of canonical bands (this project's own).
use Rattle.std.specs.Prelude.{◌≡◌, ℤ, pos, ◌+ℤ◌, ◌-ℤ◌, ◌<ℤ◌, ◌⊎◌, not, List, All}
use Rattle.std.specs.List.{AllPairs}
use Rattle.be_geom.specs.declared.rect.Rect.{Rect}
use Rattle.be_region.specs.Regions.{region_has, IsNotEmpty, SamePixels}

-- the first rectangle is in the same rows as the second and further left, with a column between
-- them, or above it
abbrev pub IsBefore : Rect → Rect → Type 0
IsBefore r s =
    ((r.top ≡ s.top) × (r.bottom ≡ s.bottom) × ((r.right +ℤ pos 1) <ℤ s.left)) ⊎ (r.bottom <ℤ s.top)

-- at some column the one row has a pixel and the other has none
abbrev pub RowsDiffer : List Rect → ℤ → ℤ → Type 0
RowsDiffer rs y z = (x : ℤ) × (region_has rs x y ≡ not (region_has rs x z))

-- rectangles in the same rows are the spans of a band; bands go down, and the spans of each go
-- right without touching; the row above a band is another one than its rows, so that bands that
-- touch have different spans
pub record AreBands (rs : List Rect) : Type 0 where
  pub none_empty : All IsNotEmpty rs
  pub in_order : AllPairs IsBefore rs
  pub merged : All (λ r. RowsDiffer rs (r.top -ℤ pos 1) r.top) rs

-- the same pixels have the same bands
abbrev pub SamePixelsSameBands : Type 0
SamePixelsSameBands = (a b : List Rect) → AreBands a → AreBands b → SamePixels a b → a ≡ b
