-- Patterns as words (the three patterns with names are The Be Book's, the words this project's
-- own).
use Rattle.std.specs.Prelude.{ℕ, Bool, ◌==◌, ◌&&◌, length, List, [], ◌∷◌, codes, if◌then◌else◌}
use Rattle.std.specs.Prelude.{Option, Some}
use Rattle.std.specs.Option.{option_map}
use Rattle.std.specs.Str.{bytes_eq}
use Rattle.be_color.specs.declared.patterns.Pattern.{Pattern}
use Rattle.be_lex.specs.Hex.{hex_bytes, hex_text, are_bytes}

-- B_SOLID_HIGH: each bit is 1
abbrev pub high_rows : List ℕ
high_rows = 0xff ∷ 0xff ∷ 0xff ∷ 0xff ∷ 0xff ∷ 0xff ∷ 0xff ∷ 0xff ∷ []

-- B_SOLID_LOW: each bit is 0
abbrev pub low_rows : List ℕ
low_rows = 0 ∷ 0 ∷ 0 ∷ 0 ∷ 0 ∷ 0 ∷ 0 ∷ 0 ∷ []

-- B_MIXED_COLORS: a chequerboard whose left top bit is 1
abbrev pub mixed_rows : List ℕ
mixed_rows = 0xaa ∷ 0x55 ∷ 0xaa ∷ 0x55 ∷ 0xaa ∷ 0x55 ∷ 0xaa ∷ 0x55 ∷ []

-- the pattern of eight rows, the top one first
abbrev pub with_rows : List ℕ → Pattern
with_rows rows = record { rows = rows }

-- one of the three names, or sixteen hexadecimal digits, the top row first
unfoldable pub pattern_of : List ℕ → Option Pattern
pattern_of word =
    if bytes_eq word (codes "high") then Some (with_rows high_rows)
    else if bytes_eq word (codes "low") then Some (with_rows low_rows)
    else if bytes_eq word (codes "mixed") then Some (with_rows mixed_rows)
    else option_map with_rows (hex_bytes 8 word)

-- the canonical word of a pattern: its name where it has one, else its digits
unfoldable pub pattern_text : Pattern → List ℕ
pattern_text pattern =
    if bytes_eq pattern.rows high_rows then codes "high"
    else if bytes_eq pattern.rows low_rows then codes "low"
    else if bytes_eq pattern.rows mixed_rows then codes "mixed"
    else hex_text pattern.rows

-- its eight rows are bytes, as those of every pattern that the code has
abbrev pub is_pattern : Pattern → Bool
is_pattern pattern = (length pattern.rows == 8) && are_bytes pattern.rows
