-- What the reading of bytes gives beside what they say (this project's own).
use Rattle.std.specs.Prelude.{◌≡◌, ℕ, Result, Ok, Err}
use Rattle.be_script.specs.declared.Script.{Script}
use Rattle.be_said.specs.declared.fault.LineFault.{LineFault}
use Rattle.be_said.specs.declared.fault.LineFault.TheVariants as line
use Rattle.be_reader.specs.declared.fault.ScriptFault.{ScriptFault}
use Rattle.be_reader.specs.declared.fault.ScriptFault.TheVariants as fault
use Rattle.be_said.specs.SoFar.{SoFar}
use Rattle.be_said.specs.Whole.{said_by}
use Rattle.be_reader.specs.Grammar.{Fault}

-- the bytes say this script, or have this fault first; there may be no memory for either
abbrev pub IsRead : Result SoFar Fault → Result Script ScriptFault → Type 0
IsRead due (Ok script) = due ≡ Ok (said_by script)
IsRead due (Err (fault.At line reason)) = due ≡ Err (record { line = line; reason = reason })
IsRead due (Err fault.NoMemory) = Unit {0}

-- the fault of a line, of which the number is told
abbrev pub fault_at : ℕ → LineFault → ScriptFault
fault_at number (line.Bad reason) = fault.At number reason
fault_at number line.NoMemory = fault.NoMemory
