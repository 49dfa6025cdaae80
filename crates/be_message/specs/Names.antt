-- Which bytes are a field's name, and which are a text that a message can hold (this project's
-- own).
use Rattle.std.specs.Prelude.{ℕ, Bool, false, ◌&&◌, nat_le, List, [], ◌∷◌, length}
use Rattle.std.specs.List.{list_all}
use Rattle.std.specs.Char.{is_ascii_lowercase}
use Rattle.be_facts.specs.Names.{is_name_byte}
use Rattle.be_message.specs.Limits.{most_name_bytes, most_text_bytes}

-- a name: 1 to 32 of those, a letter first
unfoldable pub is_name : List ℕ → Bool
is_name [] = false
is_name (b ∷ bytes) =
    is_ascii_lowercase b && list_all is_name_byte bytes
    && nat_le (length (b ∷ bytes)) most_name_bytes

abbrev pub is_text_byte : ℕ → Bool
is_text_byte b = nat_le 32 b && nat_le b 126

-- a text: at most 1,024 bytes, each 32 to 126
unfoldable pub is_text : List ℕ → Bool
is_text bytes = list_all is_text_byte bytes && nat_le (length bytes) most_text_bytes
