use Rattle.std.proofs.Common.{length}
use Rattle.script_tests.proofs.rules.+takes_current.Given as goal

abbrev pub decreases-takes_current : goal.decreases-takes_current
decreases-takes_current l = length l.words.now
