-- How far an answer holds along a row (this project's own).
use Rattle.std.specs.Prelude.{◌≡◌, ℤ, pos, ◌+ℤ◌, ◌≤ℤ◌, ◌⊎◌}

-- from column x on the answer is the same up to the last column, and the next has another, unless
-- there is no next i32
pub record IsRun {A : Type 0} (answer : ℤ → A) (x last : ℤ) : Type 0 where
  pub forward : x ≤ℤ last
  pub same : (z : ℤ) → x ≤ℤ z → z ≤ℤ last → answer z ≡ answer x
  pub other : (last ≡ pos 2147483647) ⊎ (answer (last +ℤ pos 1) ≡ answer x → ⊥)
