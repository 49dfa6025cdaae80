-- Bytes written as hexadecimal digits, the letters in lower case (this project's own).
use Rattle.std.specs.Prelude.{ℕ, Bool, ◌||◌, nat_lt, List, Option, None, if◌then◌else◌}
use Rattle.std.specs.List.{list_all}
use Rattle.std.specs.Char.{is_ascii_digit}
use Rattle.std.specs.Int.{is_in_range}
use Rattle.std.specs.Result.{result_ok}
use Rattle.hex.specs.Hex.{decode_sized, encode_lower}

-- 0 to 9 and a to f
abbrev pub is_hex_digit : ℕ → Bool
is_hex_digit c = is_ascii_digit c || is_in_range 97 102 c

-- the bytes that a word writes, where it is the digits of just so many: two of each, the high one
-- first
unfoldable pub hex_bytes : ℕ → List ℕ → Option (List ℕ)
hex_bytes count word =
    if list_all is_hex_digit word then result_ok (decode_sized word count) else None

-- the digits of some bytes
abbrev pub hex_text : List ℕ → List ℕ
hex_text bytes = encode_lower bytes

-- each is a byte
abbrev pub are_bytes : List ℕ → Bool
are_bytes bytes = list_all (λ b. nat_lt b 256) bytes
