-- How a line of a report is cut into its words (this project's own).
use Rattle.std.specs.Prelude.{ℕ, Bool, ◌&&◌, nat_le, List, [], Option, Some, None}
use Rattle.std.specs.List.{list_all, slice_split}
use Rattle.be_lex.specs.Words.{is_space}

-- each byte is 33 to 126, so that none parts words or ends a line
abbrev pub is_plain : List ℕ → Bool
is_plain word = list_all (λ b. nat_le 33 b && nat_le b 126) word

-- the words of a line, as one space parts two of them
abbrev pub words_between : List ℕ → List (List ℕ)
words_between text = slice_split is_space text

-- the same of what is left of a line, where something is
abbrev pub words_left : Option (List ℕ) → List (List ℕ)
words_left (Some text) = words_between text
words_left None = []
