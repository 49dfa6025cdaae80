-- Which words are names (this project's own).
use Rattle.std.specs.Prelude.{ℕ, Bool, false, ◌==◌, ◌&&◌, ◌||◌, nat_le, List, [], ◌∷◌, length}
use Rattle.std.specs.Prelude.{codes}
use Rattle.std.specs.Char.{is_ascii_digit, is_ascii_lowercase}
use Rattle.std.specs.List.{list_all}
use Rattle.std.specs.Str.{bytes_eq}
use Rattle.be_facts.specs.Names.{is_name_byte}

-- at most so many of those bytes, a letter first
unfoldable pub is_name_within : ℕ → List ℕ → Bool
is_name_within most [] = false
is_name_within most (b ∷ bytes) =
    is_ascii_lowercase b && list_all is_name_byte bytes && nat_le (length (b ∷ bytes)) most

-- a name of a script's things: 1 to 16 bytes
abbrev pub is_name : List ℕ → Bool
is_name word = is_name_within 16 word

-- a name of a message's fields: 1 to 32 bytes
abbrev pub is_field_name : List ℕ → Bool
is_field_name word = is_name_within 32 word

-- the four names that mean something everywhere, which no line may declare
unfoldable pub is_reserved_name : List ℕ → Bool
is_reserved_name word =
    bytes_eq word (codes "window") || bytes_eq word (codes "root") || bytes_eq word (codes "common")
    || bytes_eq word (codes "none")
