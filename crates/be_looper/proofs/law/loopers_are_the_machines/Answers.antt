-- Each law is a lemma.
use Rattle.be_looper.proofs.LawLemmas.{opens, owned, locks, frees, begins, handles, replies, duties_changed, buffers}
use Rattle.be_looper.proofs.law.loopers_are_the_machines.Goals as goal

pub returns-clause-opens : goal.returns-clause-opens
returns-clause-opens c = opens

pub returns-clause-owned : goal.returns-clause-owned
returns-clause-owned c = owned

pub returns-clause-locks : goal.returns-clause-locks
returns-clause-locks c = locks

pub returns-clause-frees : goal.returns-clause-frees
returns-clause-frees c = frees

pub returns-clause-begins : goal.returns-clause-begins
returns-clause-begins c = begins

pub returns-clause-handles : goal.returns-clause-handles
returns-clause-handles c = handles

pub returns-clause-replies : goal.returns-clause-replies
returns-clause-replies c = replies

pub returns-clause-duties : goal.returns-clause-duties
returns-clause-duties c = duties_changed

pub returns-clause-buffers : goal.returns-clause-buffers
returns-clause-buffers c = buffers
