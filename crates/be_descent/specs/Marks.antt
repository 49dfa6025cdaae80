-- Which pixels wait once others are painted (this project's own).
use Rattle.std.specs.Prelude.{◌≡◌, ℤ, Bool, length, count_by}
use Rattle.be_region.specs.Bands.{AreBands}
use Rattle.be_span.specs.declared.Cell.{Cell}
use Rattle.be_span.specs.Spans.{Spans, pixels_of}
use Rattle.be_span.specs.Painting.{Rule, IsPainted}

-- what holds of every buffer: its rectangles are bands, and each of their pixels has a cell
pub record IsWhole (s : Spans) : Type 0 where
  pub bands : AreBands s.rects
  pub cells : length s.cells ≡ pixels_of s.rects

-- the rule leaves the mark of each cell
abbrev pub LeavesMarks : Rule → Type 0
LeavesMarks rule = (x y : ℤ) (c : Cell) → (rule x y c).dirty ≡ c.dirty

-- by such a rule as many pixels wait as before
abbrev pub MarksStay : Type 0
MarksStay = (rule : Rule) (at : ℤ → ℤ → Bool) (old new : Spans) → IsWhole old → IsWhole new
    → LeavesMarks rule → IsPainted rule at old new
    → count_by (λ c. c.dirty) new.cells ≡ count_by (λ c. c.dirty) old.cells
