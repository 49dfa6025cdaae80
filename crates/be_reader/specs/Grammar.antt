-- Which bytes are a script and what it says, and which fault all others have (the language is this
-- project's own).
use Rattle.std.specs.Prelude.{ℕ, ◌+◌, not, nat_lt, if◌then◌else◌, List, [], ◌∷◌, length, Option}
use Rattle.std.specs.Prelude.{Some, None, Result, Ok, Err}
use Rattle.be_command.specs.declared.fault.Reason.{Reason}
use Rattle.be_command.specs.declared.fault.Reason.TheVariants.{TooLong, LongLine, BadByte}
use Rattle.be_command.specs.declared.fault.Reason.TheVariants.{UnknownWord, Unfinished, TooMuchWork}
use Rattle.be_lex.specs.Lines.{Line, lines_of, text_of, is_printable}
use Rattle.be_lex.specs.Words.{words_of, is_passed_over}
use Rattle.be_line.specs.declared.statement.Statement.{Statement}
use Rattle.be_line.specs.FirstWords.{statement_of, seat_of, meant, misplaced}
use Rattle.be_said.specs.Deeds.{Deed}
use Rattle.be_said.specs.Judging.{done}
use Rattle.be_reader.specs.LineDeeds.{deed_said}
use Rattle.be_reader.specs.Kinds.{At}
use Rattle.be_said.specs.SoFar.{SoFar, nothing_said, declared_in, is_closed, site_of}
use Rattle.be_script.specs.Work.{work_of}

-- ---- a line

-- what a line's words say, and then its deed
abbrev then_done : SoFar → Result Deed Reason → Result SoFar Reason
then_done said (Ok deed) = done said deed
then_done said (Err reason) = Err reason

abbrev unless_misplaced : SoFar → Statement → At → Option Reason → Result SoFar Reason
unless_misplaced said statement at None = then_done said (deed_said said statement at)
unless_misplaced said statement at (Some reason) = Err reason

abbrev read_placed : SoFar → Statement → At → Result SoFar Reason
read_placed said statement at =
    unless_misplaced said statement at (misplaced (site_of said) (seat_of statement))

abbrev pub read_known : SoFar → Option Statement → At → Result SoFar Reason
read_known said (Some statement) at = read_placed said (meant (site_of said) statement) at
read_known said None at = Err UnknownWord

-- a line without words says nothing
abbrev read_words : SoFar → List ℕ → List (List ℕ) → Result SoFar Reason
read_words said text [] = Ok said
read_words said text (word ∷ words) =
    read_known said (statement_of word) (record { words = words; window = None; text = text })

abbrev read_text : SoFar → List ℕ → Result SoFar Reason
read_text said text =
    if not (is_printable text) then Err BadByte else if is_passed_over text then Ok said
    else read_words said text (words_of text)

-- what is said with one line more, or what is wrong with it; a line has at most 2,048 bytes
unfoldable pub read_line : SoFar → Line → Result SoFar Reason
read_line said line =
    if nat_lt 2048 (length line.bytes) then Err LongLine else read_text said (text_of line)

-- ---- a script

-- the first fault: its line, counted from 1, or 0 where no line has it, and its reason
pub record Fault : Type 0 where
  pub line : ℕ
  pub reason : Reason

abbrev pub fault : {A : Type 0} → ℕ → Reason → Result A Fault
fault line reason = Err (record { line = line; reason = reason })

-- the work is at most 262,144
abbrev within_work : ℕ → SoFar → ℕ × ℕ → Result SoFar Fault
within_work line said size =
    if nat_lt 262144 (work_of (declared_in said size)) then fault line TooMuchWork else Ok said

-- the screen was said, and all is closed; the fault is of the line behind the last
unfoldable pub finished : ℕ → SoFar → Option (ℕ × ℕ) → Result SoFar Fault
finished line said None = fault line Unfinished
finished line said (Some size) =
    if is_closed said.begun then within_work line said size else fault line Unfinished

-- a line that is read goes on, and its reason is the fault of this line
abbrev and_then : ℕ → Result SoFar Reason → (SoFar → Result SoFar Fault) → Result SoFar Fault
and_then line (Ok said) next = next said
and_then line (Err reason) next = fault line reason

-- the lines from the one with this number on
unfoldable pub read_lines : ℕ → SoFar → List Line → Result SoFar Fault
read_lines number said [] = finished number said said.screen
read_lines number said (line ∷ lines) =
    and_then number (read_line said line) (λ next. read_lines (number + 1) next lines)

-- what a script says; a script has at most 1,048,576 bytes
unfoldable pub script_of : List ℕ → Result SoFar Fault
script_of bytes =
    if nat_lt 1048576 (length bytes) then fault 0 TooLong
    else read_lines 1 nothing_said (lines_of bytes)
