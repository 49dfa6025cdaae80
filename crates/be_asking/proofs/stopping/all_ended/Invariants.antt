-- Each application before this one is at its end, and in hand.
use Rattle.std.proofs.Common.{ℕ, ◌<◌, true}
use Rattle.be_machine.specs.Program.{has_ended}
use Rattle.be_machine.specs.Touched as part
use Rattle.be_script.specs.Script.{declared_by}
use Rattle.be_asking.specs.Finding.{IsInHand}
use Rattle.be_asking.specs.Stopping.{Tells}
use Rattle.be_asking.proofs.stopping.all_ended.Given as goal

abbrev pub invariant-loop-app : goal.invariant-loop-app
invariant-loop-app l = (m : ℕ) → m < l.app → Tells (declared_by l.script) l.held.parts (λ s. has_ended (declared_by l.script) s m) true × IsInHand (declared_by l.script) l.held.parts (part.cell m)
