-- The lines that a report is made of (this project's own).
use Rattle.std.specs.Prelude.{ℕ, List, [], ◌∷◌, ◌++◌}
use Rattle.std.specs.List.{join_with_byte}

-- words with one space between them, and a line feed behind them
unfoldable pub line_of : List (List ℕ) → List ℕ
line_of words = join_with_byte 32 words ++ 10 ∷ []

-- words that stand behind others
abbrev pub behind : List (List ℕ) → List ℕ
behind [] = []
behind (word ∷ words) = (32 ∷ word) ++ behind words
