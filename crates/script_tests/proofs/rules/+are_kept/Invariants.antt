use Rattle.std.proofs.Common.{length}
use Rattle.script_tests.proofs.rules.+are_kept.Given as goal

abbrev pub decreases-are_kept : goal.decreases-are_kept
decreases-are_kept l = length l.steps.now
