-- What the reading of a script and a history gives.
use Rattle.std.specs.Prelude.{◌≡◌, ◌<◌, ℕ, true, false, List, [], ◌∷◌, length, Result, Ok, Err}
use Rattle.app_server.specs.Inputs.{Told, begins_history}
use Rattle.app_server.specs.declared.told.Told.{Told as ToldParts}
use Rattle.be_lex.specs.Lines.{Line, lines_of}
use Rattle.be_reader.specs.Grammar.{Fault}
use Rattle.be_reader.specs.declared.fault.ScriptFault.{ScriptFault}
use Rattle.be_reader.specs.declared.fault.ScriptFault.TheVariants as fault
use Rattle.be_script.specs.Script.{declared_by}

-- what the code has of both
abbrev pub as_told : ToldParts → Told
as_told told = record { script = declared_by told.script; history = told.history.items }

-- the bytes are these, or have this fault first; there may be no memory for either
abbrev pub IsTold : Result Told Fault → Result ToldParts ScriptFault → Type 0
IsTold due (Ok told) = due ≡ Ok (as_told told)
IsTold due (Err (fault.At line reason)) = due ≡ Err (record { line = line; reason = reason })
IsTold due (Err fault.NoMemory) = Unit {0}

-- ---- where the report begins

-- no line is left, or the first of them begins the report
abbrev pub Stops : List Line → Type 0
Stops [] = Unit {0}
Stops (line ∷ lines) = begins_history line ≡ true

-- the text begins with a line that is another one, and this stands behind it
pub record IsScriptLine (text behind : List ℕ) : Type 0 where
  pub line : Line
  pub next : lines_of text ≡ line ∷ lines_of behind
  pub shorter : length behind < length text
  pub other : begins_history line ≡ false
