-- A line that counts something (this project's own).
use Rattle.std.specs.Prelude.{ℕ, List, [], ◌∷◌}
use Rattle.std.specs.Fmt.{decimal}
use Rattle.be_written.specs.Lines.{line_of}

-- a word and a number
abbrev pub count_line : List ℕ → ℕ → List ℕ
count_line word n = line_of (word ∷ decimal n ∷ [])
