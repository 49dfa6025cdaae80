-- What `check` writes of a script.
use Rattle.std.specs.Prelude.{ℕ, List, ◌++◌, codes}
use Rattle.be_machine.specs.Activities.{activities}
use Rattle.be_script.specs.Script.{Declared}
use Rattle.be_script.specs.Work.{work_of}
use Rattle.be_summary.specs.Counts.{count_line}

abbrev pub check_text : Declared → List ℕ
check_text d =
    count_line (codes "work") (work_of d) ++ count_line (codes "activities") (activities d)
