-- Which command a line is, and which fault all other lines have (this project's own).
use Rattle.std.specs.Prelude.{◌≡◌, ◌⊎◌, ℕ, List, Option, Some, None, Result, Ok, Err, codes}
use Rattle.std.specs.Option.{option_and_then}
use Rattle.be_command.specs.declared.Command.{Command}
use Rattle.be_command.specs.declared.fault.Fault.{Fault}
use Rattle.be_command.specs.declared.fault.CommandFault.{CommandFault}
use Rattle.be_command.specs.declared.fault.CommandFault.TheVariants.{BadCommand, NoMemory}
use Rattle.be_command.specs.declared.fault.Reason.{Reason}
use Rattle.be_command.specs.declared.fault.Reason.TheVariants.{UnknownWord}
use Rattle.be_command.specs.declared.first_word.FirstWord.{FirstWord}
use Rattle.be_command.specs.Names.{Known}
use Rattle.be_command.specs.Faults.{both, said_as}
use Rattle.be_command.specs.Places.{At, word_at, after_word, ended}
use Rattle.be_command.specs.Kinds.{said_all, after_all}
use Rattle.be_command.specs.Forms.{Form, form_of, first_word_of}

-- what stands behind the first word, to the line's end, read by its form
abbrev pub read_by : Known → Form → At → Result Command Fault
read_by known form at =
    said_as (λ x. form.makes x.0)
    (both (said_all known form.kinds at) (ended (after_all form.kinds at)))

-- the same, where the first word is that of a command
abbrev pub read_after : Known → Option FirstWord → At → Result Command Fault
read_after known (Some word) at = read_by known (form_of word) at
read_after known None at = Err (record { at = 0; reason = UnknownWord })

abbrev pub line_start : List ℕ → At
line_start line = record { text = line; place = 0 }

-- the command that a line is
unfoldable pub command_of : Known → List ℕ → Result Command Fault
command_of known line =
    read_after known (option_and_then first_word_of (word_at (line_start line)))
    (after_word (line_start line))

-- the same, where the place of a fault doesn't matter
abbrev by_reason : Result Command Fault → Result Command Reason
by_reason (Ok command) = Ok command
by_reason (Err fault) = Err fault.reason

unfoldable pub command_or_reason : Known → List ℕ → Result Command Reason
command_or_reason known line = by_reason (command_of known line)

-- the line of a text or a clip, which alone are kept as lists
abbrev pub IsOfList : List ℕ → Type 0
IsOfList line =
    (word_at (line_start line) ≡ Some (codes "text"))
    ⊎ (word_at (line_start line) ≡ Some (codes "clip"))

-- a fault is the line's, but for memory, which only a text and a clip take
abbrev pub IsFault : CommandFault → List ℕ → Result Command Fault → Type 0
IsFault (BadCommand at reason) line read = read ≡ Err (record { at = at; reason = reason })
IsFault NoMemory line read = IsOfList line

-- a line that was read is the command
abbrev pub IsRead : Result Command CommandFault → List ℕ → Result Command Fault → Type 0
IsRead (Ok command) line read = read ≡ Ok command
IsRead (Err fault) line read = IsFault fault line read
