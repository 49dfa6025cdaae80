-- Which history a text tells, and which line breaks it where it tells none (this project's own).
-- The form is exact: one space between words and none beside them, a line feed behind each line.
use Rattle.std.specs.Prelude.{ℕ, ◌+◌, Bool, ◌&&◌, nat_lt, nat_le, if◌then◌else◌, List, [], ◌∷◌}
use Rattle.std.specs.Prelude.{length, Option, Some, None, Result, Ok, Err, codes}
use Rattle.std.specs.Result.{result_ok}
use Rattle.std.specs.Str.{bytes_eq}
use Rattle.be_lex.specs.Lines.{Line, lines_of}
use Rattle.be_script.specs.Script.{Declared}
use Rattle.be_machine.specs.declared.Entry.{Entry}
use Rattle.be_report.specs.Entries.{entry_of}
use Rattle.be_report.specs.Lines.{words_between}
use Rattle.be_report.specs.Readers.{Reader, ◌>>=◌, all_of, exactly, next_word, natural_of}

-- ---- lines, which say nothing where no line feed ends them

-- the word `history`, and a number
abbrev pub heading : Reader ℕ
heading = exactly (codes "history") >>= λ _. next_word natural_of

-- how many entries the first line promises; it has at most 2048 bytes, as no other line can have
-- more
unfoldable pub count_in : List ℕ → Option ℕ
count_in bytes = if nat_le (length bytes) 2048 then all_of heading (words_between bytes) else None

abbrev pub promised : Line → Option ℕ
promised line = if line.ended then count_in line.bytes else None

-- the line behind the entries
abbrev pub begins_traces : Line → Bool
begins_traces line = line.ended && bytes_eq line.bytes (codes "traces")

-- the k-th entry
abbrev pub entry_in : Declared → ℕ → Line → Option Entry
entry_in d k line = if line.ended then entry_of d k (words_between line.bytes) else None

-- ---- a history

-- an entry before those behind it
abbrev pub before_entries : Entry → Result (List Entry) ℕ → Result (List Entry) ℕ
before_entries e (Ok es) = Ok (e ∷ es)
before_entries e (Err line) = Err line

abbrev pub entry_then : ℕ → Option Entry → Result (List Entry) ℕ → Result (List Entry) ℕ
entry_then line (Some e) rest = before_entries e rest
entry_then line None rest = Err line

-- The entries from the k-th on, up to the last one, and then the line `traces`; or the number of
-- the first line that breaks this. The k-th entry is in line k + 1.
unfoldable pub entries_in : Declared → ℕ → ℕ → List Line → Result (List Entry) ℕ
entries_in d last k [] = Err (k + 1)
entries_in d last k (line ∷ lines) =
    if nat_lt last k then (if begins_traces line then Ok [] else Err (k + 1))
    else entry_then (k + 1) (entry_in d k line) (entries_in d last (k + 1) lines)

abbrev pub promised_in : Declared → Option ℕ → List Line → Result (List Entry) ℕ
promised_in d (Some count) lines = entries_in d count 1 lines
promised_in d None lines = Err 1

abbrev pub history_in : Declared → List Line → Result (List Entry) ℕ
history_in d [] = Err 1
history_in d (line ∷ lines) = promised_in d (promised line) lines

-- the entries that a text spells up to its line `traces`, or the number of the first line that
-- breaks this
unfoldable pub entries_of : Declared → List ℕ → Result (List Entry) ℕ
entries_of d text = history_in d (lines_of text)

-- the history that a text tells, if it tells one
abbrev pub told_by : Declared → List ℕ → Option (List Entry)
told_by d text = result_ok (entries_of d text)
