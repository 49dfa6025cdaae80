-- The buttons of the root and of the window's views so far.
use Rattle.std.proofs.Common.{◌≡◌, map, take}
use Rattle.be_pressed.proofs.Opened.{due_of}
use Rattle.be_pressed.proofs.opening.opened_in.Given as goal
use Rattle.be_pressed.specs.Hearing.{at_rest}

abbrev pub invariant-loop-view : goal.invariant-loop-view
invariant-loop-view l =
    l.buttons ≡ map at_rest (due_of l.w l.line (take l.view-index l.script.views.items))
