-- The columns of one row as spans of them, and what a pen covers along a way (this project's own).
use Rattle.std.specs.Prelude.{◌≡◌, ℕ, ℤ, pos, negsuc, Bool, true, false, ◌||◌, ◌-◌, ◌/◌, ◌+ℤ◌, ◌-ℤ◌}
use Rattle.std.specs.Prelude.{◌≤ℤ◌, ◌<ℤ◌}
use Rattle.std.specs.Int.{int_min, int_max}
use Rattle.be_geom.specs.declared.rect.Rect.{Rect}
use Rattle.be_geom.specs.Points.{between}
use Rattle.be_shape.specs.declared.Raster.{Raster}
use Rattle.be_shape.specs.declared.row.Row.{Row}
use Rattle.be_shape.specs.declared.row.Row.TheVariants.{Empty, One, Two}
use Rattle.be_shape.specs.declared.row.Span.{Span}
use Rattle.be_shape.specs.Runs.{AreRows}

-- the column, or the row, is in the span
abbrev pub span_has : Span → ℤ → Bool
span_has s z = between s.first z s.last

-- the column is in a run of the row
abbrev pub row_has : Row → ℤ → Bool
row_has Empty x = false
row_has (One run) x = span_has run x
row_has (Two left right) x = span_has left x || span_has right x

-- the ends are in order, and within reach of a pen of 32 pixels
pub record IsSpan (s : Span) : Type 0 where
  pub low : negsuc 32782 ≤ℤ s.first
  pub forward : s.first ≤ℤ s.last
  pub high : s.last ≤ℤ pos 32783

-- two spans have a gap between them
pub record IsPair (left right : Span) : Type 0 where
  pub left_sound : IsSpan left
  pub right_sound : IsSpan right
  pub apart : (left.last +ℤ pos 1) <ℤ right.first

-- the runs of a row are spans, two of them with a gap between
abbrev pub IsRow : Row → Type 0
IsRow Empty = Unit {0}
IsRow (One run) = IsSpan run
IsRow (Two left right) = IsPair left right

-- the rest of a span from a column on
pub record IsCut (s : Span) (from : ℤ) (rest : Span) : Type 0 where
  pub ahead : from ≤ℤ s.last
  pub first_is : rest.first ≡ int_max s.first from
  pub last_is : rest.last ≡ s.last

-- the rows of a rectangle that has pixels
pub record AreEdges (r : Rect) (rows : Span) : Type 0 where
  pub sound : IsSpan rows
  pub across : r.left ≤ℤ r.right
  pub down : r.top ≤ℤ r.bottom
  pub first_is : rows.first ≡ r.top
  pub last_is : rows.last ≡ r.bottom

-- no column from this one on is in
abbrev pub NoneFrom : (ℤ → Bool) → ℤ → Type 0
NoneFrom has from = (x : ℤ) → from ≤ℤ x → has x ≡ false

-- the first run from a column on, cut to the columns from there on
pub record IsNextSpan (has : ℤ → Bool) (from : ℤ) (s : Span) : Type 0 where
  pub sound : IsSpan s
  pub ahead : from ≤ℤ s.first
  pub passed : (x : ℤ) → from ≤ℤ x → x <ℤ s.first → has x ≡ false
  pub within : (x : ℤ) → s.first ≤ℤ x → x ≤ℤ s.last → has x ≡ true
  pub ended : has (s.last +ℤ pos 1) ≡ false

-- a pen of this size covers the pixel at one of two coordinates or at one between them
abbrev pub swept_has : ℕ → ℤ → ℤ → ℤ → Bool
swept_has size a b z =
    between (int_min a b -ℤ pos ((size - 1) / 2)) z (int_max a b +ℤ pos (size - 1 - (size - 1) / 2))

-- the rows of a rectangle's sides, drawn with a pen
pub record ArePenRows (size : ℕ) (r : Rect) (rows : Span) : Type 0 where
  pub sound : IsSpan rows
  pub across : r.left ≤ℤ r.right
  pub down : r.top ≤ℤ r.bottom
  pub all : (z : ℤ) → span_has rows z ≡ swept_has size r.top r.bottom z

-- each row of the span has a pixel, and no other row has one
pub record AreSpanRows (shape : Raster) (rows : Span) : Type 0 where
  pub sound : IsSpan rows
  pub all : AreRows shape rows.first rows.last
