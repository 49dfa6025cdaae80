-- What the reading of a history gives beside what it tells (this project's own).
use Rattle.std.specs.Prelude.{◌≡◌, ℕ, List, Option, Some, None, Result, Ok, Err}
use Rattle.std.specs.Global.{Vec}
use Rattle.be_command.specs.declared.fault.Reason.TheVariants.{BadEntry}
use Rattle.be_machine.specs.declared.Entry.{Entry}
use Rattle.be_reader.specs.declared.fault.ScriptFault.{ScriptFault}
use Rattle.be_reader.specs.declared.fault.ScriptFault.TheVariants as fault
use Rattle.be_said.specs.declared.fault.LineFault.{LineFault}
use Rattle.be_said.specs.declared.fault.LineFault.TheVariants as line
use Rattle.be_report.specs.Readers.{Reader}

-- the bytes tell this history, or are no entry from this line on; there may be no memory for either
abbrev pub IsHistory : Result (List Entry) ℕ → Result (Vec Entry) ScriptFault → Type 0
IsHistory due (Ok entries) = due ≡ Ok entries.items
IsHistory due (Err (fault.At line reason)) = (due ≡ Err line) × (reason ≡ BadEntry)
IsHistory due (Err fault.NoMemory) = Unit {0}

-- a line says this, or is no entry; there may be no memory for it
abbrev pub IsSaid : {X : Type 0} → Option X → Result X LineFault → Type 0
IsSaid due (Ok x) = due ≡ Some x
IsSaid due (Err (line.Bad reason)) = (due ≡ None) × (reason ≡ BadEntry)
IsSaid due (Err line.NoMemory) = Unit {0}

-- the same of the words before, where these are left
abbrev pub ReadsOr : {X : Type 0}
    → Reader X → List (List ℕ) → Result X LineFault → List (List ℕ) → Type 0
ReadsOr read before (Ok x) after = read before ≡ Some (x, after)
ReadsOr read before (Err (line.Bad reason)) after = (read before ≡ None) × (reason ≡ BadEntry)
ReadsOr read before (Err line.NoMemory) after = Unit {0}
