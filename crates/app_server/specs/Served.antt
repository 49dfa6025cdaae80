-- What each command writes of the bytes that it has read.
use Rattle.std.specs.Prelude.{◌≡◌, ℕ, List, Some, Ok}
use Rattle.app_server.specs.declared.command.CommandWords.{CommandWords}
use Rattle.app_server.specs.declared.command.CommandWords.TheVariants.{Run, Serial, Check, Make}
use Rattle.app_server.specs.declared.command.CommandWords.TheVariants.{Drill, Replay, Explain}
use Rattle.app_server.specs.declared.command.CommandWords.TheVariants.{Picture, Archive}
use Rattle.app_server.specs.declared.command.CommandWords.TheVariants.{Unarchive, Buttons}
use Rattle.app_server.specs.CheckText.{check_text}
use Rattle.app_server.specs.DrillText.{drill_text}
use Rattle.app_server.specs.ExplainText.{explain_text}
use Rattle.app_server.specs.Inputs.{Told, picture_in, script_in, told_in}
use Rattle.be_machine.specs.History.{IsFinished}
use Rattle.be_machine.specs.Orderly.{IsOrderly}
use Rattle.be_machine.specs.Schedule.{IsScheduled}
use Rattle.be_machine.specs.declared.Entry.{Entry}
use Rattle.be_command.specs.declared.Command.{Command}
use Rattle.be_made.specs.Made.{made}
use Rattle.be_pressed.specs.ButtonText.{buttons_text}
use Rattle.be_report.specs.Report.{report_of}
use Rattle.be_report.specs.Told.{told_by}
use Rattle.be_script.specs.Script.{Declared}
use Rattle.be_sheet.specs.Sheets.{picture_screen}
use Rattle.be_trees.specs.ArchiveLine.{opening_tree, IsTreeLine}
use Rattle.be_trees.specs.Reading.{tree_of_line}
use Rattle.be_trees.specs.TreeText.{tree_text}
use Rattle.be_views.specs.Trees.{Tree}

-- A history of a run of the script, whoever steps: every entry is legal where it stands, and it
-- ends with Stop; each looper takes its port's letters in their order, and each command that was
-- drawn is executed once, in its window's order.
pub record IsRunOf (d : Declared) (h : List Entry) : Type 0 where
  pub finished : IsFinished d h
  pub orderly : IsOrderly d h

-- The bytes are a script; what is written is the report of the one history that it tells, and this
-- is a run of the script, one that was chosen.
pub record WritesReport (IsChosen : Declared → List Entry → Type 0) (bytes written : List ℕ)
    : Type 0 where
  pub script : Declared
  pub history : List Entry
  pub is_script : script_in bytes ≡ Ok script
  pub told : told_by script written ≡ Some history
  pub run : IsRunOf script history
  pub chosen : IsChosen script history
  pub report : written ≡ report_of script history

-- the bytes are a script, of which such a text is written
pub record WritesOfScript (IsText : Declared → List ℕ → Type 0) (bytes written : List ℕ)
    : Type 0 where
  pub script : Declared
  pub is_script : script_in bytes ≡ Ok script
  pub says : IsText script written

-- what came of the run of the script that the number makes, by the schedule of the same seed
pub record WritesDrill (n : ℕ) (written : List ℕ) : Type 0 where
  pub script : Declared
  pub history : List Entry
  pub is_script : script_in (made n) ≡ Ok script
  pub run : IsRunOf script history
  pub chosen : IsScheduled script n history
  pub summary : written ≡ drill_text script history

-- the bytes are a script and a finished history of it, of which this text is written
pub record WritesOf (text : Declared → List Entry → List ℕ) (bytes written : List ℕ)
    : Type 0 where
  pub told : Told
  pub is_told : told_in bytes ≡ Ok told
  pub finished : IsFinished told.script told.history
  pub says : written ≡ text told.script told.history

-- the bytes are a picture; what is written is what it draws on white pixels
pub record WritesPicture (width height : ℕ) (bytes written : List ℕ) : Type 0 where
  pub picture : List Command
  pub is_picture : picture_in bytes ≡ Ok picture
  pub says : written ≡ picture_screen picture width height

-- the bytes are the line of a view tree's archive
pub record WritesTree (bytes written : List ℕ) : Type 0 where
  pub tree : Tree
  pub is_archive : tree_of_line bytes ≡ Ok tree
  pub says : written ≡ tree_text tree

-- what the command writes once it has read the bytes
abbrev pub Writes : CommandWords → List ℕ → List ℕ → Type 0
Writes Run bytes written = WritesReport (λ d h. Unit {0}) bytes written
Writes (Serial seed) bytes written = WritesReport (λ d h. IsScheduled d seed h) bytes written
Writes Check bytes written = WritesOfScript (λ d text. text ≡ check_text d) bytes written
Writes (Make n) bytes written = written ≡ made n
Writes (Drill n) bytes written = WritesDrill n written
Writes Replay bytes written = WritesOf report_of bytes written
Writes (Explain x y) bytes written = WritesOf (λ d h. explain_text d h x y) bytes written
Writes (Picture width height) bytes written = WritesPicture width height bytes written
Writes (Archive w) bytes written =
    WritesOfScript (λ d text. IsTreeLine (opening_tree d w) text) bytes written
Writes Unarchive bytes written = WritesTree bytes written
Writes Buttons bytes written = WritesOf buttons_text bytes written
