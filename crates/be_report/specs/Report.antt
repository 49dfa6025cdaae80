-- The report of a history (this project's own).
use Rattle.std.specs.Prelude.{ℕ, List, [], ◌∷◌, ◌++◌, codes}
use Rattle.be_script.specs.Script.{Declared}
use Rattle.be_machine.specs.declared.Entry.{Entry}
use Rattle.be_machine.specs.History.{state_after}
use Rattle.be_written.specs.EntryText.{history_text}
use Rattle.be_written.specs.Lines.{line_of}
use Rattle.be_written.specs.ScreenText.{screen_text}
use Rattle.be_written.specs.TraceText.{traces_text}

-- its entries, what applications and loopers note of them, and the screen that they leave
abbrev pub report_of : Declared → List Entry → List ℕ
report_of d h =
    history_text d h ++ traces_text d h ++ screen_text d.width d.height (state_after d h).screen
    ++ line_of (codes "end" ∷ [])
