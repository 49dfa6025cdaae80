use Rattle.std.proofs.Common.{length}
use Rattle.app_server.proofs.Split.{Passed}
use Rattle.app_server.proofs.told.parts.Given as goal

-- the lines so far are the script's
abbrev pub invariant-loop-behind : goal.invariant-loop-behind
invariant-loop-behind l = Passed l.fn.bytes l.rest l.before

abbrev pub decreases-loop-behind : goal.decreases-loop-behind
decreases-loop-behind l = length l.rest
