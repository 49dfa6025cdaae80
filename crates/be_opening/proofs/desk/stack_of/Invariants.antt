-- The windows so far.
use Rattle.std.proofs.Common.{◌≡◌, take}
use Rattle.be_opening.proofs.Windows.{windows_of}
use Rattle.be_opening.proofs.desk.stack_of.Given as goal

abbrev pub invariant-loop-line : goal.invariant-loop-line
invariant-loop-line l =
    l.stack ≡ windows_of l.script.screen.0 l.script.screen.1 (take l.line-index l.script.windows.items)
