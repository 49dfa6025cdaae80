-- What is proved of the commands' answers. Each statement is the contract of a function in
-- src/laws.rt.
use Rattle.std.specs.Prelude.{◌≡◌, ℕ, Bool, true, false, List, Ok}
use Rattle.app_server.specs.declared.command.CommandWords.{CommandWords}
use Rattle.app_server.specs.declared.command.CommandWords.TheVariants.{Run, Serial, Check, Make}
use Rattle.app_server.specs.declared.command.CommandWords.TheVariants.{Drill, Replay, Explain}
use Rattle.app_server.specs.declared.command.CommandWords.TheVariants.{Picture, Archive}
use Rattle.app_server.specs.declared.command.CommandWords.TheVariants.{Unarchive, Buttons}
use Rattle.app_server.specs.declared.status.Status.{Status}
use Rattle.app_server.specs.declared.status.Status.TheVariants.{Finished, Illegal, Usage}
use Rattle.app_server.specs.declared.status.Status.TheVariants.{BadScript, ReadFault, WriteFault}
use Rattle.app_server.specs.declared.status.Status.TheVariants.{NoMemory}
use Rattle.app_server.specs.Answers.{IsServed}
use Rattle.app_server.specs.Commands.{IsInRange}
use Rattle.app_server.specs.Inputs.{script_in}
use Rattle.be_script.specs.Script.{Declared}
use Rattle.be_trees.specs.ArchiveLine.{opening_tree, IsTreeLine}

-- an answer that says what the input is; the others say what failed
abbrev pub is_judgement : Status → Bool
is_judgement Finished = true
is_judgement (Illegal entry) = true
is_judgement (BadScript line reason) = true
is_judgement Usage = false
is_judgement ReadFault = false
is_judgement WriteFault = false
is_judgement NoMemory = false

-- a right one, with what is written then
pub record Judgement (command : CommandWords) (bytes : List ℕ) : Type 0 where
  pub status : Status
  pub judges : is_judgement status ≡ true
  pub written : List ℕ
  pub served : IsServed command bytes written status

-- Of the views of a window there is an archive. It is there where all coordinates have 16 bits,
-- which the limits of a script don't say.
abbrev pub HasArchive : CommandWords → List ℕ → Type 0
HasArchive Run bytes = Unit {0}
HasArchive (Serial seed) bytes = Unit {0}
HasArchive Check bytes = Unit {0}
HasArchive (Make n) bytes = Unit {0}
HasArchive (Drill n) bytes = Unit {0}
HasArchive Replay bytes = Unit {0}
HasArchive (Explain x y) bytes = Unit {0}
HasArchive (Picture width height) bytes = Unit {0}
HasArchive (Archive w) bytes =
    (d : Declared) → script_in bytes ≡ Ok d
    → (line : List ℕ) × IsTreeLine (opening_tree d w) line
HasArchive Unarchive bytes = Unit {0}
HasArchive Buttons bytes = Unit {0}

-- whatever the bytes, some judgement of them is right: where the input is neither bad nor illegal,
-- there is something to be written
abbrev pub SomeJudgement : Type 0
SomeJudgement =
    (command : CommandWords) (bytes : List ℕ) → IsInRange command → HasArchive command bytes
    → Judgement command bytes

-- and no other one is
abbrev pub OneJudgement : Type 0
OneJudgement =
    (command : CommandWords) (bytes first second : List ℕ) (a b : Status)
    → is_judgement a ≡ true → is_judgement b ≡ true
    → IsServed command bytes first a → IsServed command bytes second b → a ≡ b
