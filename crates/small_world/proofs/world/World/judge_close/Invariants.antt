use Rattle.std.proofs.Common.{◌≡◌, ℕ, ◌<◌, Some, false}
use Rattle.small_world.specs.InHand.{told_work}
use Rattle.small_world.proofs.world.World.judge_close.Given as goal

abbrev pub invariant-loop-place : goal.invariant-loop-place
invariant-loop-place l = (p : ℕ) → p < l.place → told_work l.self l.held.parts p ≡ Some false
