use Rattle.std.proofs.Common.{◌≡◌, List, ◌++◌, drop}
use Rattle.be_machine.specs.declared.Entry.{Entry}
use Rattle.be_script.specs.Script.{declared_by}
use Rattle.be_written.specs.Notings.{AreTold}
use Rattle.be_written.specs.TraceText.{loopers_text}
use Rattle.be_written.proofs.RunnerTexts.{loopers_left}
use Rattle.be_written.proofs.traces.write_loopers.Given as goal

-- what is written and what is left to write are all of them
abbrev pub invariant-loop-place : goal.invariant-loop-place
invariant-loop-place g l =
    let d = declared_by l.script in
    (h : List Entry) → AreTold d h (g.N.Notes.told l.notes) → l.page ++ loopers_left d h l.place (drop l.place d.windows) ≡ l.fn.page ++ loopers_text d h
