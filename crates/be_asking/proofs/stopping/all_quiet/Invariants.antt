-- Nothing of any window before this one is on its way, and its parts are in hand.
use Rattle.std.proofs.Common.{ℕ, ◌<◌, true}
use Rattle.be_script.specs.Script.{declared_by}
use Rattle.be_asking.specs.Stopping.{HasWindow, Tells, is_quiet}
use Rattle.be_asking.proofs.stopping.all_quiet.Given as goal

abbrev pub invariant-loop-window : goal.invariant-loop-window
invariant-loop-window l = (w : ℕ) → w < l.window → Tells (declared_by l.script) l.held.parts (is_quiet w) true × HasWindow (declared_by l.script) l.held.parts w
