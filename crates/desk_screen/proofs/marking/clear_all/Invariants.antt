use Rattle.be_desk.specs.Changes.{Desk}
use Rattle.desk_screen.specs.Screens.{IsScreen}
use Rattle.desk_screen.proofs.marking.clear_all.Given as goal

abbrev pub invariant-loop-place : goal.invariant-loop-place
invariant-loop-place l = (desk : Desk) → IsScreen desk l.initial.panes → IsScreen desk l.panes
