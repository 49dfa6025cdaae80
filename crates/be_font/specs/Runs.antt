-- Runs of the bits of a row.
use Rattle.std.specs.Prelude.{◌≡◌, ℕ, ◌+◌, ◌-◌, ◌<◌, ◌≤◌, ◌==◌, Bool, true, false, ◌&&◌, nat_lt}
use Rattle.std.specs.Int.{bit_at}

-- from a column on there is no bit
abbrev pub HasNoBit : (ℕ → Bool) → ℕ → Type 0
HasNoBit has from = (column : ℕ) → from ≤ column → has column ≡ false

-- from a column on these are the first bits, as far as they go without a gap
pub record IsFirstRun (has : ℕ → Bool) (from first last : ℕ) : Type 0 where
  pub begins : from ≤ first
  pub ends : first ≤ last
  pub none_before : (column : ℕ) → from ≤ column → column < first → has column ≡ false
  pub all_inside : (column : ℕ) → first ≤ column → column ≤ last → has column ≡ true
  pub none_after : has (last + 1) ≡ false

-- the bit of a row that is kept as a byte, its leftmost column the highest bit
unfoldable pub row_bit : ℕ → ℕ → Bool
row_bit bits column = nat_lt column 8 && (bit_at bits (7 - column) == 1)
