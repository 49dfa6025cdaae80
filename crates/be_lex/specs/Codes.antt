-- Four-letter codes, by which messages are told apart (this project's own).
use Rattle.std.specs.Prelude.{ℕ, Bool, ◌==◌, ◌&&◌, ◌||◌, List, length, if◌then◌else◌, Option, Some}
use Rattle.std.specs.Prelude.{None}
use Rattle.std.specs.List.{list_all}
use Rattle.std.specs.Char.{is_ascii_alphanumeric}
use Rattle.std.specs.Int.{w32, from_be_bytes, to_be_bytes}

-- A to Z, a to z, 0 to 9 and the low line
abbrev pub is_code_byte : ℕ → Bool
is_code_byte b = is_ascii_alphanumeric b || b == 95

-- four of those
unfoldable pub is_code : List ℕ → Bool
is_code word = length word == 4 && list_all is_code_byte word

-- the four as a number of 32 bits, the first highest
unfoldable pub code_of : List ℕ → Option ℕ
code_of word = if is_code word then Some (from_be_bytes w32 word) else None

-- the four letters of a code
unfoldable pub code_text : ℕ → List ℕ
code_text code = to_be_bytes w32 code

-- UPDT, NORE and NOTU, which the server alone sends
abbrev pub is_reserved_code : ℕ → Bool
is_reserved_code code = code == 0x55504454 || code == 0x4e4f5245 || code == 0x4e4f5455
