-- A line as it is read, word by word (this project's own).
use Rattle.std.specs.Prelude.{ℕ, ◌+◌, List, [], ◌∷◌, Option, Some, None, Result, Ok, Err}
use Rattle.be_lex.specs.Words.{words_of, behind_word}
use Rattle.be_command.specs.declared.fault.Fault.{Fault}
use Rattle.be_command.specs.declared.fault.Reason.{Reason}
use Rattle.be_command.specs.declared.fault.Reason.TheVariants.{Shape}

-- what is left of a line, and how many words were read before it
pub record At : Type 0 where
  pub text : List ℕ
  pub place : ℕ

abbrev pub first_word : List (List ℕ) → Option (List ℕ)
first_word [] = None
first_word (word ∷ words) = Some word

-- the next word
abbrev pub word_at : At → Option (List ℕ)
word_at at = first_word (words_of at.text)

-- behind it; where there is none, all stays
abbrev pub behind : At → Option (List ℕ) → At
behind at (Some word) = record { text = behind_word at.text; place = at.place + 1 }
behind at None = at

abbrev pub after_word : At → At
after_word at = behind at (word_at at)

-- what is said, or the fault that it has at this place
abbrev pub said_at : {A : Type 0} → ℕ → Result A Reason → Result A Fault
said_at place (Ok x) = Ok x
said_at place (Err reason) = Err (record { at = place; reason = reason })

-- what a word says; a missing one is of the wrong form
abbrev pub judged : {A : Type 0} → (List ℕ → Result A Reason) → Option (List ℕ) → Result A Reason
judged read None = Err Shape
judged read (Some word) = read word

-- what the next word says
abbrev pub next_said : {A : Type 0} → (List ℕ → Result A Reason) → At → Result A Fault
next_said read at = said_at at.place (judged read (word_at at))

-- no word is left
abbrev pub ended_by : ℕ → Option (List ℕ) → Result (Unit {0}) Fault
ended_by place None = Ok tt
ended_by place (Some word) = Err (record { at = place; reason = Shape })

abbrev pub ended : At → Result (Unit {0}) Fault
ended at = ended_by at.place (word_at at)
