-- The pixels of the screen that no window owns (this project's own).
use Rattle.std.specs.Prelude.{ℕ, pos, ◌/◌, ◌%◌, Bool, length, count_by, is_none}
use Rattle.std.specs.List.{range_with_len}
use Rattle.be_machine.specs.Pixels.{owner_in}
use Rattle.be_machine.specs.State.{State}
use Rattle.be_script.specs.Script.{Declared}

-- no window owns the k-th pixel of the screen, in row order
abbrev pub is_desktop : ℕ → State → ℕ → Bool
is_desktop width s k = is_none (owner_in s (pos (k % width)) (pos (k / width)))

-- how many there are
abbrev pub desktop_count : Declared → State → ℕ
desktop_count d s = count_by (is_desktop d.width s) (range_with_len 0 (length s.screen))
