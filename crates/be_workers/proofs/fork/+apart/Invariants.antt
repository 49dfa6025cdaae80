use Rattle.std.proofs.Common.{◌+◌, ◌*◌, length}
use Rattle.be_workers.proofs.fork.+apart.Given as goal

abbrev pub decreases-both : goal.decreases-both
decreases-both g l = 3 * length l.rest.now + 2

abbrev pub decreases-each_from : goal.decreases-each_from
decreases-each_from g l = 3 * length l.s.now

abbrev pub decreases-both-back : goal.decreases-both-back
decreases-both-back g l = 3 * length l.rest.now + 1

abbrev pub decreases-both-front : goal.decreases-both-front
decreases-both-front g l = 3 * length l.first.now + 1
