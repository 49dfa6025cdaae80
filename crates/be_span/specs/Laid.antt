-- Cells laid on pixels, by rows and rectangles (this project's own).
use Rattle.std.specs.Prelude.{◌≡◌, ◌<◌, ℕ, ℤ, negsuc, pos, ◌+ℤ◌, ◌≤ℤ◌, Option}
use Rattle.be_span.specs.declared.Cell.{Cell}
use Rattle.be_span.specs.Runs.{IsBeside}
use Rattle.be_span.specs.Spans.{Spans, cell_in, laid}

-- no further than from one pixel of a region to another
abbrev pub IsShift : ℤ → Type 0
IsShift d = (negsuc 65534 ≤ℤ d) × (d ≤ℤ pos 65535)

-- each of the n pixels from (x, y) on to the right has what is laid on it, and all others stay
pub record IsLaidRun (cells : ℕ → Option Cell) (old new : Spans) (x y : ℤ) (n : ℕ) : Type 0 where
  pub inside : (k : ℕ) → k < n → cell_in new (x +ℤ pos k) y
      ≡ laid (cells k) (cell_in old (x +ℤ pos k) y)
  pub beside : (z w : ℤ) → IsBeside x y n z w → cell_in new z w ≡ cell_in old z w
