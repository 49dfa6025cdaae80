use Rattle.std.proofs.Common.{◌≡◌, take}
use Rattle.be_desk.specs.Plans.{lent}
use Rattle.desk_screen.proofs.changing.lend.Given as goal

abbrev pub invariant-loop-pane : goal.invariant-loop-pane
invariant-loop-pane l = lent l.all.items ≡ take l.pane-index l.panes
