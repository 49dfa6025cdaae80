use Rattle.std.proofs.Common.{length}
use Rattle.script_tests.proofs.rules.+all_go_together.Given as goal

abbrev pub decreases-all_go_together : goal.decreases-all_go_together
decreases-all_go_together l = length l.words.now
