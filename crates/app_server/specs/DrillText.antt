-- What `drill` writes of the run of the script that it makes.
use Rattle.std.specs.Prelude.{ℕ, List}
use Rattle.be_machine.specs.History.{state_after}
use Rattle.be_machine.specs.State.{State}
use Rattle.be_machine.specs.declared.Entry.{Entry}
use Rattle.be_script.specs.Script.{Declared}
use Rattle.be_shown.specs.Desktop.{desktop_count}
use Rattle.be_summary.specs.Summary.{summary}

-- how many entries there are, and of two kinds, how many pixels no window owns then, and how many
-- colours the screen has
abbrev pub summary_after : Declared → List Entry → State → List ℕ
summary_after d h s = summary h (desktop_count d s) s.screen

abbrev pub drill_text : Declared → List Entry → List ℕ
drill_text d h = summary_after d h (state_after d h)
