-- How far each edge of a view goes with its parent's size (The Be Book: the following modes of
-- BView).
use Rattle.std.specs.Prelude.{ℤ, pos, negsuc, ◌-ℤ◌, ◌/◌}
use Rattle.be_follow.specs.declared.mode.Across.{Across}
use Rattle.be_follow.specs.declared.mode.Across.TheVariants as across
use Rattle.be_follow.specs.declared.mode.Down.{Down}
use Rattle.be_follow.specs.declared.mode.Down.TheVariants as down

-- half of a number, rounded down also where it is negative (this project's own rounding): half of
-- -1, -2 and -3 is -1, -1 and -2
abbrev pub half : ℤ → ℤ
half (pos n) = pos (n / 2)
half (negsuc n) = negsuc (n / 2)

-- how far the left edge moves where the parent's width goes from old to new
abbrev pub left_shift : Across → ℤ → ℤ → ℤ
left_shift across.Left old new = pos 0
left_shift across.Right old new = new -ℤ old
left_shift across.LeftRight old new = pos 0
left_shift across.Center old new = half new -ℤ half old

-- how far the right edge moves where the parent's width goes from old to new
abbrev pub right_shift : Across → ℤ → ℤ → ℤ
right_shift across.Left old new = pos 0
right_shift across.Right old new = new -ℤ old
right_shift across.LeftRight old new = new -ℤ old
right_shift across.Center old new = half new -ℤ half old

-- how far the top edge moves where the parent's height goes from old to new
abbrev pub top_shift : Down → ℤ → ℤ → ℤ
top_shift down.Top old new = pos 0
top_shift down.Bottom old new = new -ℤ old
top_shift down.TopBottom old new = pos 0
top_shift down.Center old new = half new -ℤ half old

-- how far the bottom edge moves where the parent's height goes from old to new
abbrev pub bottom_shift : Down → ℤ → ℤ → ℤ
bottom_shift down.Top old new = pos 0
bottom_shift down.Bottom old new = new -ℤ old
bottom_shift down.TopBottom old new = new -ℤ old
bottom_shift down.Center old new = half new -ℤ half old
