-- The bands of a region, one by one (this project's own).
use Rattle.std.specs.Prelude.{◌≡◌, ◌<◌, ℤ, pos, negsuc, ◌+ℤ◌, ◌≤ℤ◌, ◌<ℤ◌, ◌⊎◌, Bool, true, false}
use Rattle.std.specs.Prelude.{List, [], ◌∷◌, length, All}
use Rattle.std.specs.List.{list_any, AllPairs}
use Rattle.be_geom.specs.declared.rect.Rect.{Rect}
use Rattle.be_geom.specs.Points.{between}
use Rattle.be_region.specs.Regions.{IsNotEmpty}
use Rattle.be_region.specs.Bands.{IsBefore}

-- the column is in some rectangle, whatever its rows
abbrev pub line_has : List Rect → ℤ → Bool
line_has rs x = list_any (λ r. between r.left x r.right) rs

-- each rectangle begins behind the column, none is empty across, and a column lies between any two
abbrev pub IsLineAfter : ℤ → List Rect → Type 0
IsLineAfter low [] = Unit {0}
IsLineAfter low (r ∷ rs) = (low <ℤ r.left) × (r.left ≤ℤ r.right) × IsLineAfter (r.right +ℤ pos 1) rs

-- rectangles side by side, of which no two touch
abbrev pub IsLine : List Rect → Type 0
IsLine [] = Unit {0}
IsLine (r ∷ rs) = (r.left ≤ℤ r.right) × IsLineAfter (r.right +ℤ pos 1) rs

-- the first band, in the rows from top to bottom, and those below; where there is none, the row
-- below all others
pub record IsRows (band rest : List Rect) (top bottom : ℤ) : Type 0 where
  pub line : IsLine band
  pub rows : All (λ r. (r.top ≡ top) × (r.bottom ≡ bottom)) band
  pub down : top ≤ℤ bottom
  pub below : All (λ r. bottom <ℤ r.top) rest
  pub none_empty : All IsNotEmpty rest
  pub in_order : AllPairs IsBefore rest
  pub low : negsuc 32767 ≤ℤ top
  pub there : ((0 < length band) × (bottom ≤ℤ pos 32767))
      ⊎ ((band ≡ []) × (rest ≡ []) × (top ≡ pos 32768) × (bottom ≡ pos 32768))

-- no rectangle ends above the row
abbrev pub AreFrom : ℤ → List Rect → Type 0
AreFrom y rs = All (λ r. y ≤ℤ r.bottom) rs

-- each rectangle ends above the row
abbrev pub AreAbove : ℤ → List Rect → Type 0
AreAbove y rs = All (λ r. r.bottom <ℤ y) rs

-- ---- edges

-- the next column at which a line begins or ends where it was left inside a rectangle or before one
abbrev pub edge_of : Bool → List Rect → ℤ
edge_of inside [] = pos 2147483647
edge_of true (r ∷ rs) = r.right +ℤ pos 1
edge_of false (r ∷ rs) = r.left
