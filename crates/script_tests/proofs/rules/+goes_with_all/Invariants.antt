use Rattle.std.proofs.Common.{length}
use Rattle.script_tests.proofs.rules.+goes_with_all.Given as goal

abbrev pub decreases-goes_with_all : goal.decreases-goes_with_all
decreases-goes_with_all l = length l.words.now
