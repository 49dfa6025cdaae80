use Rattle.std.specs.Prelude.{ℕ, ℤ, pos, unsigned_abs, ◌-◌, ◌==◌, Bool, List, [], ◌∷◌, slice_index}
use Rattle.std.specs.Int.{bit_at, int_rem_euclid}

-- where a coordinate falls in a pattern: its remainder by 8, which is 0 to 7 below 0 too, so that
-- -1 falls on 7
unfoldable pub place_in_pattern : ℤ → ℕ
place_in_pattern z = unsigned_abs (int_rem_euclid z (pos 8))

-- the bit of a pattern's eight rows at window coordinates x and y: of row y mod 8 the bit x mod 8
-- from the left, where the highest bit is leftmost (this project's own: the pattern lies on the
-- window and not on the screen)
unfoldable pub pattern_bit : List ℕ → ℤ → ℤ → Bool
pattern_bit rows x y = bit_at (slice_index rows (place_in_pattern y)) (7 - place_in_pattern x) == 1

-- a pattern whose eight rows are the same
abbrev pub alike_rows : ℕ → List ℕ
alike_rows byte = byte ∷ byte ∷ byte ∷ byte ∷ byte ∷ byte ∷ byte ∷ byte ∷ []
