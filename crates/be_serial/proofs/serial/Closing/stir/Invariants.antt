use Rattle.std.proofs.Common.{◌≡◌, ℕ, ◌<◌, true, false, get_or}
use Rattle.be_serial.proofs.serial.Closing.stir.Given as goal

abbrev pub invariant-loop-mark : goal.invariant-loop-mark
invariant-loop-mark g l = (a : ℕ) → a < l.mark-index → get_or l.stale a false ≡ true
