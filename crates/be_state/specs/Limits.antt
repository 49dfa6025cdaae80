-- Between which numbers pens and bases lie (this project's own).
use Rattle.std.specs.Prelude.{ℕ, ◌≤◌}

-- a pen is a square of 1 by 1 to 32 by 32 pixels
abbrev pub IsPenSize : ℕ → Type 0
IsPenSize size = (1 ≤ size) × (size ≤ 32)
