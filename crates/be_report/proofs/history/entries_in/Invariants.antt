use Rattle.std.proofs.Common.{◌≡◌, ◌+◌, ◌≤◌, length}
use Rattle.be_lex.specs.Lines.{lines_of}
use Rattle.be_script.specs.Script.{declared_by}
use Rattle.be_report.specs.Told.{entries_in}
use Rattle.be_report.proofs.CodeLemmas.{before_all}
use Rattle.be_report.proofs.history.entries_in.Given as goal

abbrev pub invariant-loop-line : goal.invariant-loop-line
invariant-loop-line l =
    (before_all l.entries.items (entries_in (declared_by l.script) l.last l.number (lines_of l.rest)) ≡ entries_in (declared_by l.script) l.last 1 (lines_of l.fn.text))
    × (l.number + length l.rest ≤ length l.fn.text + 1)

abbrev pub decreases-loop-line : goal.decreases-loop-line
decreases-loop-line l = length l.rest
