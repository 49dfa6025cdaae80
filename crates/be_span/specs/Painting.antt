-- What painting makes of the cells of a window (this project's own).
use Rattle.std.specs.Prelude.{◌≡◌, ◌+◌, ◌<◌, ◌≤◌, ◌⊎◌, ℕ, ℤ, pos, negsuc, ◌+ℤ◌, ◌≤ℤ◌, Bool, List}
use Rattle.std.specs.Prelude.{if◌then◌else◌, slice_get}
use Rattle.std.specs.Option.{option_map}
use Rattle.be_span.specs.declared.Cell.{Cell}
use Rattle.be_span.specs.Spans.{Spans, cell_in}

-- by a rule the cell of each pixel becomes another
abbrev pub Rule : Type 0
Rule = ℤ → ℤ → Cell → Cell

-- where a test says so a cell is as the rule has it, and elsewhere it stays
abbrev pub changed : Rule → (ℤ → ℤ → Bool) → ℤ → ℤ → Cell → Cell
changed rule at x y c = if at x y then rule x y c else c

-- n cells side by side from a place on are changed by their numbers, and all others stay
pub record IsPartDone (f : ℕ → Cell → Cell) (old new : List Cell) (start n : ℕ) : Type 0 where
  pub inside : (k : ℕ) → k < n
      → slice_get new (start + k) ≡ option_map (f k) (slice_get old (start + k))
  pub others : (q : ℕ) → (q < start) ⊎ (start + n ≤ q) → slice_get new q ≡ slice_get old q

-- The one clause of all painting: where a test says so each cell is as the rule has it, once, and
-- each other cell stays.
pub record IsPainted (rule : Rule) (at : ℤ → ℤ → Bool) (old new : Spans) : Type 0 where
  pub region : new.rects ≡ old.rects
  pub cells : (x y : ℤ) → cell_in new x y
      ≡ (if at x y then option_map (rule x y) (cell_in old x y) else cell_in old x y)

-- n pixels side by side from (x, y) on are in the range of coordinates
pub record AreInRange (x y : ℤ) (n : ℕ) : Type 0 where
  pub left : negsuc 32767 ≤ℤ x
  pub right : (x +ℤ pos n) ≤ℤ pos 32768
  pub top : negsuc 32767 ≤ℤ y
  pub bottom : y ≤ℤ pos 32767
