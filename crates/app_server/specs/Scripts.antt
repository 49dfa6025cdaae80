-- What is read of a source as a script, or as a script and a history, and why there is none.
use Rattle.std.specs.Prelude.{◌≡◌, ℕ, List, Result, Ok}
use Rattle.app_server.specs.declared.status.Status.{Status}
use Rattle.app_server.specs.declared.status.Status.TheVariants.{Finished, Illegal, Usage}
use Rattle.app_server.specs.declared.status.Status.TheVariants.{BadScript, ReadFault, WriteFault}
use Rattle.app_server.specs.declared.status.Status.TheVariants.{NoMemory}
use Rattle.app_server.specs.Answers.{IsFault}
use Rattle.app_server.specs.Headline.{HasFailed, Turn, WasRead}
use Rattle.app_server.specs.Inputs.{Told, script_in, told_in}
use Rattle.be_command.specs.declared.fault.Reason.{Reason}
use Rattle.be_machine.specs.declared.Entry.{Entry}
use Rattle.be_reader.specs.Grammar.{Fault}
use Rattle.be_script.specs.Script.{declared_by}
use Rattle.be_script.specs.declared.Script.{Script}

-- the bytes that were read are this
pub record Reads {S X : Type 0} (most : ℕ) (of_bytes : List ℕ → Result X Fault) (source : Turn S)
    (x : X) : Type 0 where
  pub bytes : List ℕ
  pub read : WasRead most source bytes
  pub said : of_bytes bytes ≡ Ok x

-- they aren't, and this is the first fault in them
pub record IsFaulty {S X : Type 0} (most : ℕ) (of_bytes : List ℕ → Result X Fault)
    (source : Turn S) (line : ℕ) (reason : Reason) : Type 0 where
  pub bytes : List ℕ
  pub read : WasRead most source bytes
  pub fault : IsFault (of_bytes bytes) line reason

-- why there is none
abbrev pub Refuses :
    {S X : Type 0} → ℕ → (List ℕ → Result X Fault) → Turn S → Status → Type 0
Refuses most of_bytes source Finished = ⊥
Refuses most of_bytes source (Illegal entry) = ⊥
Refuses most of_bytes source Usage = ⊥
Refuses most of_bytes source (BadScript line reason) = IsFaulty most of_bytes source line reason
Refuses most of_bytes source ReadFault = HasFailed source
Refuses most of_bytes source WriteFault = ⊥
Refuses most of_bytes source NoMemory = Unit {0}

-- a script
abbrev pub Tells : {S : Type 0} → Turn S → Script → Type 0
Tells source script = Reads 1048576 script_in source (declared_by script)
