-- What words a line has (this project's own).
use Rattle.std.specs.Prelude.{ℕ, zero, suc, Bool, true, false, not, ◌==◌, ◌&&◌, List, [], ◌∷◌}
use Rattle.std.specs.Prelude.{filter, drop, slice_index, Option, Some, None, if◌then◌else◌}
use Rattle.std.specs.List.{slice_split, list_all, list_any, position_or_len, before_first}
use Rattle.std.specs.List.{after_first}

-- what stands between words
abbrev pub is_space : ℕ → Bool
is_space b = b == 32

-- no bytes
abbrev pub is_empty : List ℕ → Bool
is_empty [] = true
is_empty (b ∷ bytes) = false

-- the words of a text: what stands between its spaces
unfoldable pub words_of : List ℕ → List (List ℕ)
words_of text = filter (λ piece. not (is_empty piece)) (slice_split is_space text)

-- a word: one byte or more, and no space
unfoldable pub is_word : List ℕ → Bool
is_word word = not (is_empty word) && list_all (λ b. not (is_space b)) word

-- a text from its first byte on that passes a test
abbrev pub from_first : (ℕ → Bool) → List ℕ → List ℕ
from_first test text = drop (position_or_len test text) text

-- what stands behind the first word of a text, from the byte after it on: nothing, or a space first
unfoldable pub behind_word : List ℕ → List ℕ
behind_word text = from_first is_space (from_first (λ b. not (is_space b)) text)

-- and what stands behind its first n words
unfoldable pub behind_words : ℕ → List ℕ → List ℕ
behind_words zero text = text
behind_words (suc n) text = behind_words n (behind_word text)

-- a comment's first word begins with #
abbrev pub begins_comment : List (List ℕ) → Bool
begins_comment [] = true
begins_comment (word ∷ words) = slice_index word 0 == 35

-- a line that says nothing: it has no words, or is a comment
unfoldable pub is_passed_over : List ℕ → Bool
is_passed_over text = begins_comment (words_of text)

-- what stands in a word before and behind the first of a byte, where it has one
abbrev pub cut_at : ℕ → List ℕ → Option (List ℕ × List ℕ)
cut_at byte word =
    if list_any (λ b. b == byte) word
    then Some (before_first (λ b. b == byte) word, after_first (λ b. b == byte) word) else None

-- what may stand behind a word: nothing, or a space first
abbrev pub ends_word : List ℕ → Bool
ends_word [] = true
ends_word (b ∷ bytes) = is_space b
