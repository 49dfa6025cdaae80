-- What holds of every stack (this project's own).
use Rattle.std.specs.Prelude.{◌≡◌, ℕ, true, ◌≤◌, ◌==◌, length, Some, count_by, if◌then◌else◌}
use Rattle.be_stack.specs.Windows.{Windows, is_open, is_shown}

-- each window that isn't closed stands in the order once, and nothing else stands there
abbrev pub EachOpenOnce : Windows → Type 0
EachOpenOnce s = (w : ℕ) → count_by (λ v. v == w) s.order ≡ (if is_open s.windows w then 1 else 0)

-- the window that is active, if one is, is shown
abbrev pub ActiveIsShown : Windows → Type 0
ActiveIsShown s = (w : ℕ) → s.active ≡ Some w → is_shown s.windows w ≡ true

pub record IsWhole (s : Windows) : Type 0 where
  pub once : EachOpenOnce s
  pub active : ActiveIsShown s
  pub few : length s.windows ≤ 32
