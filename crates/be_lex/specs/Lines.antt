-- What lines a text is cut into (this project's own).
use Rattle.std.specs.Prelude.{ℕ, ◌-◌, Bool, true, false, not, ◌==◌, ◌&&◌, nat_le, if◌then◌else◌}
use Rattle.std.specs.Prelude.{List, [], ◌∷◌, length, take, slice_index}
use Rattle.std.specs.List.{slice_split, list_all}
use Rattle.be_lex.specs.Words.{is_empty}

-- a line: its bytes without the line feed behind them, and whether one is there, which the last
-- line may lack
pub record Line : Type 0 where
  pub bytes : List ℕ
  pub ended : Bool

-- what stands before a line feed is a line that it ends; what stands behind the last is a line only
-- where it has bytes
abbrev pub lines_from : List (List ℕ) → List Line
lines_from [] = []
lines_from (piece ∷ []) =
    if is_empty piece then [] else record { bytes = piece; ended = false } ∷ []
lines_from (piece ∷ next ∷ pieces) =
    record { bytes = piece; ended = true } ∷ lines_from (next ∷ pieces)

-- the lines of a text
unfoldable pub lines_of : List ℕ → List Line
lines_of bytes = lines_from (slice_split (λ b. b == 10) bytes)

-- bytes with no line feed among them
abbrev pub is_line : List ℕ → Bool
is_line bytes = list_all (λ b. not (b == 10)) bytes

-- a carriage return stands directly before the line feed
abbrev pub has_return : Line → Bool
has_return line = line.ended && (slice_index line.bytes (length line.bytes - 1) == 13)

-- the bytes of a line without that carriage return
abbrev pub text_of : Line → List ℕ
text_of line = if has_return line then take (length line.bytes - 1) line.bytes else line.bytes

-- each byte is 32 to 126
abbrev pub is_printable : List ℕ → Bool
is_printable text = list_all (λ b. nat_le 32 b && nat_le b 126) text
