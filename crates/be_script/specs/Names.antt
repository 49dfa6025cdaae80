-- The names that a script declares (this project's own).
use Rattle.std.specs.Prelude.{ℕ, Bool, true, false, not, ◌&&◌, ◌||◌, nat_le, List, [], ◌∷◌}
use Rattle.std.specs.Prelude.{length, codes}
use Rattle.std.specs.Char.{is_ascii_lowercase}
use Rattle.std.specs.List.{list_all}
use Rattle.std.specs.Str.{bytes_eq}
use Rattle.be_facts.specs.Names.{is_name_byte}

-- the four names that mean something everywhere
abbrev pub is_reserved_name : List ℕ → Bool
is_reserved_name name =
    bytes_eq name (codes "window") || bytes_eq name (codes "root") || bytes_eq name (codes "common")
    || bytes_eq name (codes "none")

-- 1 to 16 of those bytes, a letter first, and none of the four
unfoldable pub is_declared_name : List ℕ → Bool
is_declared_name [] = false
is_declared_name (b ∷ bytes) =
    is_ascii_lowercase b
    && list_all is_name_byte bytes
    && nat_le (length (b ∷ bytes)) 16
    && not (is_reserved_name (b ∷ bytes))

-- no two of them are the same
abbrev pub are_different : List (List ℕ) → Bool
are_different [] = true
are_different (name ∷ names) =
    list_all (λ other. not (bytes_eq name other)) names && are_different names

-- all that are declared side by side
unfoldable pub are_names : List (List ℕ) → Bool
are_names names = list_all is_declared_name names && are_different names
