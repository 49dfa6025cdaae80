-- What the words of a line make, by its first word (the language is this project's own).
use Rattle.std.specs.Prelude.{ℕ, List, None, Result}
use Rattle.be_actor.specs.declared.Instruction.TheVariants as instruction
use Rattle.be_command.specs.Names.{Known}
use Rattle.be_command.specs.Reading.{command_or_reason}
use Rattle.be_command.specs.declared.fault.Reason.{Reason}
use Rattle.be_line.specs.Kinds.{said_as}
use Rattle.be_line.specs.declared.statement.Statement.{Statement}
use Rattle.be_said.specs.Deeds.{Deed, adds_step}
use Rattle.be_reader.specs.Forms.{form_of}
use Rattle.be_reader.specs.Kinds.{At, said_all}
use Rattle.be_said.specs.SoFar.{SoFar}

-- behind the first word of a line
abbrev pub line_at : List (List ℕ) → List ℕ → At
line_at words text = record { words = words; window = None; text = text }

-- what a line with this first word makes, or the reason against it
unfoldable pub deed_said : SoFar → Statement → At → Result Deed Reason
deed_said said statement at =
    said_as (form_of statement).makes (said_all said (form_of statement).kinds at)

-- what the line of a command makes, by the names that it may use
abbrev pub command_said : Known → List ℕ → Result Deed Reason
command_said known text =
    said_as (λ command. adds_step (instruction.Draw command)) (command_or_reason known text)
