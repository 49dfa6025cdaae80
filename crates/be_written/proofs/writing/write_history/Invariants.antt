use Rattle.std.proofs.Common.{◌≡◌, ◌+◌, ◌++◌, drop}
use Rattle.be_script.specs.Script.{declared_by}
use Rattle.be_written.specs.EntryText.{entries_from, history_text}
use Rattle.be_written.proofs.writing.write_history.Given as goal

-- what is written and what is left to write are the whole history
abbrev pub invariant-loop-place : goal.invariant-loop-place
invariant-loop-place l =
    l.page ++ entries_from (declared_by l.script) (l.place + 1) (drop l.place l.history) ≡ l.fn.page ++ history_text (declared_by l.script) l.history
