-- How far an answer stays the same along a row that is looked at up to some column (this project's
-- own).
use Rattle.std.specs.Prelude.{◌≡◌, ℤ, pos, ◌+ℤ◌, ◌≤ℤ◌, ◌<ℤ◌, ◌⊎◌}

-- from column x on the answer is the same up to the last column, which is the end, or before it
-- where the next column has another answer
pub record IsRunTo {A : Type 0} (answer : ℤ → A) (x end last : ℤ) : Type 0 where
  pub forward : x ≤ℤ last
  pub within : last ≤ℤ end
  pub same : (z : ℤ) → x ≤ℤ z → z ≤ℤ last → answer z ≡ answer x
  pub other : (last ≡ end) ⊎ ((last <ℤ end) × (answer (last +ℤ pos 1) ≡ answer x → ⊥))
