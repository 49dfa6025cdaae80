-- Which bytes are a picture, and which fault all others have (the language is this project's own).
use Rattle.std.specs.Prelude.{ℕ, ◌+◌, ◌==◌, ◌&&◌, Bool, false, not, is_none, nat_le, nat_lt}
use Rattle.std.specs.Prelude.{if◌then◌else◌, List, [], ◌∷◌, ◌++◌, length, codes}
use Rattle.std.specs.Prelude.{Option, Some, None, Result, Ok, Err}
use Rattle.std.specs.Option.{option_map_or}
use Rattle.std.specs.List.{flat_map}
use Rattle.std.specs.Str.{bytes_eq}
use Rattle.be_command.specs.declared.Command.{Command}
use Rattle.be_command.specs.declared.fault.Reason.{Reason}
use Rattle.be_command.specs.declared.fault.Reason.TheVariants.{TooLong, LongLine, BadByte}
use Rattle.be_command.specs.declared.fault.Reason.TheVariants.{UnknownWord, NotHere, UnknownName}
use Rattle.be_command.specs.declared.fault.Reason.TheVariants.{TooMany}
use Rattle.be_command.specs.Forms.{first_word_of}
use Rattle.be_command.specs.Names.{Known}
use Rattle.be_command.specs.Reading.{command_or_reason}
use Rattle.be_command.specs.Spelling.{spelling}
use Rattle.be_lex.specs.Lines.{Line, lines_of, text_of, is_printable}
use Rattle.be_lex.specs.Words.{words_of, is_passed_over}
use Rattle.be_line.specs.FirstWords.{statement_of, is_of_drawing}
use Rattle.be_picture.specs.Recording.{Refusal, not_drawing, unbalanced, too_deep, too_many}
use Rattle.be_picture.specs.Recording.{open_pushes, refusal}

-- ---- the first word

-- that of a command which a Draw body may have too
abbrev pub is_drawing_word : List ℕ → Bool
is_drawing_word word = option_map_or is_of_drawing (first_word_of word) false

-- a pop without an open push, and a push where 15 are open
abbrev pub is_unbalanced : ℕ → List ℕ → Bool
is_unbalanced pushes word =
    if bytes_eq word (codes "pop") then pushes == 0
    else bytes_eq word (codes "push") && nat_le 15 pushes

-- what is wrong with a line by its first word: it begins no line of a script, no drawing command's,
-- or one that may not stand behind those before it
abbrev pub word_fault : ℕ → List ℕ → Option Reason
word_fault pushes word =
    if is_none (statement_of word) then Some UnknownWord
    else if not (is_drawing_word word) then Some NotHere
    else if is_unbalanced pushes word then Some NotHere
    else None

-- ---- a line

-- The reason against a line whose command isn't recorded. A drawing command's view isn't the root;
-- what would close or open a state too much was told by the first word.
abbrev pub reason_of : Refusal → Reason
reason_of not_drawing = UnknownName
reason_of unbalanced = NotHere
reason_of too_deep = NotHere
reason_of too_many = TooMany

abbrev pub unless_refused : List Command → Command → Option Refusal → Result (List Command) Reason
unless_refused commands c None = Ok (commands ++ c ∷ [])
unless_refused commands c (Some why) = Err (reason_of why)

-- a command is recorded behind those that are there
abbrev pub with_command : List Command → Result Command Reason → Result (List Command) Reason
with_command commands (Ok c) = unless_refused commands c (refusal commands c)
with_command commands (Err reason) = Err reason

abbrev pub unless_misplaced :
    Known → List Command → List ℕ → Option Reason → Result (List Command) Reason
unless_misplaced known commands text None = with_command commands (command_or_reason known text)
unless_misplaced known commands text (Some reason) = Err reason

-- a line without words says nothing
abbrev pub read_words :
    Known → List Command → List ℕ → List (List ℕ) → Result (List Command) Reason
read_words known commands text [] = Ok commands
read_words known commands text (word ∷ words) =
    unless_misplaced known commands text (word_fault (open_pushes commands) word)

abbrev pub read_text : Known → List Command → List ℕ → Result (List Command) Reason
read_text known commands text =
    if not (is_printable text) then Err BadByte
    else if is_passed_over text then Ok commands
    else read_words known commands text (words_of text)

-- the commands with one line more, or what is wrong with it; a line has at most 2,048 bytes
unfoldable pub read_line : Known → List Command → Line → Result (List Command) Reason
read_line known commands line =
    if nat_lt 2048 (length line.bytes) then Err LongLine
    else read_text known commands (text_of line)

-- ---- a picture

-- the first fault: its line, counted from 1, or 0 where no line has it
pub record Fault : Type 0 where
  pub line : ℕ
  pub reason : Reason

abbrev pub fault : ℕ → Reason → Result (List Command) Fault
fault line reason = Err (record { line = line; reason = reason })

-- a line that is read goes on, and its reason is the fault of this line
abbrev pub and_then :
    ℕ → Result (List Command) Reason → (List Command → Result (List Command) Fault)
    → Result (List Command) Fault
and_then line (Ok commands) next = next commands
and_then line (Err reason) next = fault line reason

-- the lines from the one with this number on
unfoldable pub read_lines : Known → ℕ → List Command → List Line → Result (List Command) Fault
read_lines known number commands [] = Ok commands
read_lines known number commands (line ∷ lines) =
    and_then number (read_line known commands line)
    (λ next. read_lines known (number + 1) next lines)

-- the picture that the bytes are; they are at most 1,048,576
unfoldable pub picture_of : Known → List ℕ → Result (List Command) Fault
picture_of known bytes =
    if nat_lt 1048576 (length bytes) then fault 0 TooLong
    else read_lines known 1 [] (lines_of bytes)

-- a line for each command
unfoldable pub picture_text : Known → List Command → List ℕ
picture_text known commands = flat_map (λ c. spelling known c ++ 10 ∷ []) commands
