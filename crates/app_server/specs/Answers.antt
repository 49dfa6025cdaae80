-- Which answers a command may give to the bytes that it read, each with its cause, and what it has
-- written then.
use Rattle.std.specs.Prelude.{◌≡◌, ℕ, List, [], ◌++◌, Result, Ok, Err}
use Rattle.app_server.specs.declared.command.CommandWords.{CommandWords}
use Rattle.app_server.specs.declared.command.CommandWords.TheVariants.{Run, Serial, Check, Make}
use Rattle.app_server.specs.declared.command.CommandWords.TheVariants.{Drill, Replay, Explain}
use Rattle.app_server.specs.declared.command.CommandWords.TheVariants.{Picture, Archive}
use Rattle.app_server.specs.declared.command.CommandWords.TheVariants.{Unarchive, Buttons}
use Rattle.app_server.specs.declared.status.Status.{Status}
use Rattle.app_server.specs.declared.status.Status.TheVariants.{Finished, Illegal, Usage}
use Rattle.app_server.specs.declared.status.Status.TheVariants.{BadScript, ReadFault, WriteFault}
use Rattle.app_server.specs.declared.status.Status.TheVariants.{NoMemory}
use Rattle.app_server.specs.Inputs.{Told, picture_in, script_in, told_in}
use Rattle.app_server.specs.Served.{Writes}
use Rattle.be_check.specs.Checking.{IsIllegalAt}
use Rattle.be_command.specs.declared.fault.Reason.{Reason}
use Rattle.be_reader.specs.Grammar.{Fault}
use Rattle.be_trees.specs.Reading.{tree_of_line}

-- the bytes aren't what was asked for, and this is the first fault in them
abbrev pub IsFault : {X : Type 0} → Result X Fault → ℕ → Reason → Type 0
IsFault read line reason = read ≡ Err (record { line = line; reason = reason })

abbrev pub IsBadFor : CommandWords → List ℕ → ℕ → Reason → Type 0
IsBadFor Run bytes line reason = IsFault (script_in bytes) line reason
IsBadFor (Serial seed) bytes line reason = IsFault (script_in bytes) line reason
IsBadFor Check bytes line reason = IsFault (script_in bytes) line reason
IsBadFor (Make n) bytes line reason = ⊥
IsBadFor (Drill n) bytes line reason = ⊥
IsBadFor Replay bytes line reason = IsFault (told_in bytes) line reason
IsBadFor (Explain x y) bytes line reason = IsFault (told_in bytes) line reason
IsBadFor (Picture width height) bytes line reason = IsFault (picture_in bytes) line reason
IsBadFor (Archive w) bytes line reason = IsFault (script_in bytes) line reason
IsBadFor Unarchive bytes line reason = IsFault (tree_of_line bytes) line reason
IsBadFor Buttons bytes line reason = IsFault (told_in bytes) line reason

-- the bytes tell a history, which is illegal at this entry, or ends before it
pub record TellsIllegal (bytes : List ℕ) (entry : ℕ) : Type 0 where
  pub told : Told
  pub is_told : told_in bytes ≡ Ok told
  pub illegal : IsIllegalAt told.script told.history entry

abbrev pub IsIllegalFor : CommandWords → List ℕ → ℕ → Type 0
IsIllegalFor Run bytes entry = ⊥
IsIllegalFor (Serial seed) bytes entry = ⊥
IsIllegalFor Check bytes entry = ⊥
IsIllegalFor (Make n) bytes entry = ⊥
IsIllegalFor (Drill n) bytes entry = ⊥
IsIllegalFor Replay bytes entry = TellsIllegal bytes entry
IsIllegalFor (Explain x y) bytes entry = TellsIllegal bytes entry
IsIllegalFor (Picture width height) bytes entry = ⊥
IsIllegalFor (Archive w) bytes entry = ⊥
IsIllegalFor Unarchive bytes entry = ⊥
IsIllegalFor Buttons bytes entry = TellsIllegal bytes entry

-- a front part of what the command may write: none of it, some or all
pub record IsFront (command : CommandWords) (bytes written : List ℕ) : Type 0 where
  pub rest : List ℕ
  pub whole : Writes command bytes (written ++ rest)

-- A bad or illegal input, and want of memory, are answered before anything is written.
abbrev pub IsServed : CommandWords → List ℕ → List ℕ → Status → Type 0
IsServed command bytes written Finished = Writes command bytes written
IsServed command bytes written (Illegal entry) =
    IsIllegalFor command bytes entry × (written ≡ [])
IsServed command bytes written Usage = ⊥
IsServed command bytes written (BadScript line reason) =
    IsBadFor command bytes line reason × (written ≡ [])
IsServed command bytes written ReadFault = written ≡ []
IsServed command bytes written WriteFault = IsFront command bytes written
IsServed command bytes written NoMemory = written ≡ []
