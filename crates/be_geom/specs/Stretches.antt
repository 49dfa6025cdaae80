-- How far an answer holds along a row, at least (this project's own).
use Rattle.std.specs.Prelude.{◌≡◌, ℤ, pos, negsuc, ◌≤ℤ◌}

-- a column or a row in the range
abbrev pub IsCoordinate : ℤ → Type 0
IsCoordinate z = (negsuc 32767 ≤ℤ z) × (z ≤ℤ pos 32767)

-- from column x on the answer is the same up to the last column, which isn't behind the end
pub record IsStretch {A : Type 0} (answer : ℤ → A) (x end last : ℤ) : Type 0 where
  pub forward : x ≤ℤ last
  pub within : last ≤ℤ end
  pub same : (z : ℤ) → x ≤ℤ z → z ≤ℤ last → answer z ≡ answer x
