use Rattle.std.proofs.Common.{◌≡◌, List, ◌++◌, drop}
use Rattle.be_machine.specs.declared.Entry.{Entry}
use Rattle.be_script.specs.Script.{declared_by}
use Rattle.be_written.specs.Notings.{AreTold}
use Rattle.be_written.specs.TraceText.{apps_text}
use Rattle.be_written.proofs.RunnerTexts.{apps_left}
use Rattle.be_written.proofs.traces.write_apps.Given as goal

-- what is written and what is left to write are all of them
abbrev pub invariant-loop-place : goal.invariant-loop-place
invariant-loop-place g l =
    let d = declared_by l.script in
    (h : List Entry) → AreTold d h (g.N.Notes.told l.notes) → l.page ++ apps_left d h l.place (drop l.place d.apps) ≡ l.fn.page ++ apps_text d h
