-- What the bytes are that a command reads, or why they aren't.
use Rattle.std.specs.Prelude.{ℕ, ◌+◌, Bool, false, nat_lt, if◌then◌else◌, List, [], ◌∷◌, ◌++◌}
use Rattle.std.specs.Prelude.{length, take, drop, flat_map, unwrap_or, Result, Ok, Err, codes}
use Rattle.std.specs.List.{position_or_len}
use Rattle.std.specs.Str.{bytes_eq}
use Rattle.be_command.specs.Names.{Known}
use Rattle.be_command.specs.declared.Command.{Command}
use Rattle.be_command.specs.declared.fault.Reason.TheVariants.{TooLong, BadEntry}
use Rattle.be_lex.specs.Lines.{Line, lines_of, text_of}
use Rattle.be_lex.specs.Words.{words_of}
use Rattle.be_machine.specs.declared.Entry.{Entry}
use Rattle.be_picture.specs.Text as picture
use Rattle.be_picture.specs.Text.{picture_of}
use Rattle.be_reader.specs.Grammar.{Fault, fault, script_of}
use Rattle.be_report.specs.Told.{entries_of}
use Rattle.be_said.specs.SoFar.{SoFar, declared_in}
use Rattle.be_script.specs.Script.{Declared}

-- ---- a script

-- what is declared by lines that have said the size of the screen, as those of every script have
abbrev pub all_declared : SoFar → Declared
all_declared said = declared_in said (unwrap_or said.screen (0, 0))

abbrev pub as_declared : Result SoFar Fault → Result Declared Fault
as_declared (Ok said) = Ok (all_declared said)
as_declared (Err why) = Err why

-- the script that the bytes are
abbrev pub script_in : List ℕ → Result Declared Fault
script_in bytes = as_declared (script_of bytes)

-- ---- a picture

-- the same in the words of a script's faults
abbrev pub in_lines : Result (List Command) picture.Fault → Result (List Command) Fault
in_lines (Ok commands) = Ok commands
in_lines (Err why) = fault why.line why.reason

-- no window and no bitmap, and of views the root
abbrev pub no_names : Known
no_names = record { windows = []; views = codes "root" ∷ []; bitmaps = [] }

-- the picture that the bytes are
abbrev pub picture_in : List ℕ → Result (List Command) Fault
picture_in bytes = in_lines (picture_of no_names bytes)

-- ---- a script and a report

-- the first word of a line
abbrev pub begins_with : List ℕ → List (List ℕ) → Bool
begins_with expected [] = false
begins_with expected (word ∷ words) = bytes_eq word expected

abbrev pub begins_history : Line → Bool
begins_history line = begins_with (codes "history") (words_of (text_of line))

-- how many lines stand before the first whose first word is `history`
abbrev pub script_lines : List ℕ → ℕ
script_lines bytes = position_or_len begins_history (lines_of bytes)

abbrev pub line_bytes : Line → List ℕ
line_bytes line = if line.ended then line.bytes ++ 10 ∷ [] else line.bytes

abbrev pub script_part : List ℕ → List ℕ
script_part bytes = flat_map line_bytes (take (script_lines bytes) (lines_of bytes))

abbrev pub report_part : List ℕ → List ℕ
report_part bytes = flat_map line_bytes (drop (script_lines bytes) (lines_of bytes))

-- a script, and a history that was told of it
pub record Told : Type 0 where
  pub script : Declared
  pub history : List Entry

-- the fault's line is counted from the input's first
abbrev pub with_history : Declared → ℕ → Result (List Entry) ℕ → Result Told Fault
with_history d before (Ok h) = Ok (record { script = d; history = h })
with_history d before (Err line) = fault (before + line) BadEntry

abbrev pub told_behind : ℕ → List ℕ → Result Declared Fault → Result Told Fault
told_behind before report (Ok d) = with_history d before (entries_of d report)
told_behind before report (Err why) = Err why

-- the script and the history that the bytes are, of which there are 67,108,864 at most
unfoldable pub told_in : List ℕ → Result Told Fault
told_in bytes =
    if nat_lt 67108864 (length bytes) then fault 0 TooLong
    else told_behind (script_lines bytes) (report_part bytes) (script_in (script_part bytes))
