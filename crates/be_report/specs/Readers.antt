-- How the words of a line are read, one after the other (this project's own).
use Rattle.std.specs.Prelude.{◌≡◌, ℕ, pos, ◌-◌, ◌^◌, ◌==◌, not, ◌&&◌, unsigned_abs, List, [], ◌∷◌}
use Rattle.std.specs.Prelude.{slice_index, Option, Some, None, option_map, option_and_then}
use Rattle.std.specs.Prelude.{if◌then◌else◌}
use Rattle.std.specs.Map.{lookup}
use Rattle.std.specs.Str.{bytes_eq}
use Rattle.be_command.specs.Names.{number_in}
use Rattle.be_geom.specs.Points.{between}
use Rattle.be_lex.specs.Numbers.{is_number, number_of}
use Rattle.be_script.specs.Programs.{is_note}

-- what the first words say, and the words behind them
abbrev pub Reader : Type 0 → Type 0
Reader X = List (List ℕ) → Option (X × List (List ℕ))

infixl 10 ◌>>=◌
abbrev pub ◌>>=◌ : {X Y : Type 0} → Reader X → (X → Reader Y) → Reader Y
read >>= f = λ words. option_and_then (λ p. f p.0 p.1) (read words)

-- no word, and what is made
abbrev pub gives : {X : Type 0} → X → Reader X
gives x words = Some (x, words)

-- the next word, where it says something
abbrev pub next_word : {X : Type 0} → (List ℕ → Option X) → Reader X
next_word said [] = None
next_word said (word ∷ words) = option_map (λ x. (x, words)) (said word)

-- what is said, where no word is left
abbrev pub unless_more : {X : Type 0} → X → List (List ℕ) → Option X
unless_more x [] = Some x
unless_more x (word ∷ words) = None

-- what all words say
abbrev pub all_of : {X : Type 0} → Reader X → List (List ℕ) → Option X
all_of read words = option_and_then (λ p. unless_more p.0 p.1) (read words)

-- the same, or no word at all
abbrev pub optional : {X : Type 0} → Reader X → Reader (Option X)
optional read [] = Some (None, [])
optional read (word ∷ words) = option_map (λ p. (Some p.0, p.1)) (read (word ∷ words))

-- ---- words

-- this word and no other
abbrev pub exactly : List ℕ → Reader (Unit {0})
exactly expected = next_word (λ word. if bytes_eq word expected then Some (tt {0}) else None)

-- one of a table
abbrev pub one_of : {X : Type 0} → List (List ℕ × X) → Reader X
one_of table = next_word (λ word. lookup (bytes_eq word) table)

-- the place of a name in a list of names
abbrev pub place_in : List (List ℕ) → Reader ℕ
place_in names = next_word (number_in names)

-- the number from 0 on that a word is, where it fits so many bits
abbrev pub number_within : ℕ → List ℕ → Option ℕ
number_within bits word =
    if is_number word && between (pos 0) (number_of word) (pos (2 ^ bits - 1))
    then Some (unsigned_abs (number_of word)) else None

abbrev pub number : ℕ → Reader ℕ
number bits = next_word (number_within bits)

-- a number from 0 on, of any size
abbrev pub natural_of : List ℕ → Option ℕ
natural_of word =
    if is_number word && not (slice_index word 0 == 45)
    then Some (unsigned_abs (number_of word)) else None

-- the word of a note
abbrev pub note_of : List ℕ → Option (List ℕ)
note_of word = if is_note word then Some word else None

-- ---- what the code reads

-- what was read of the words before, and what is left
abbrev pub Reads : {X : Type 0} → Reader X → List (List ℕ) → Option X → List (List ℕ) → Type 0
Reads read before (Some x) after = read before ≡ Some (x, after)
Reads read before None after = read before ≡ None
