use Rattle.be_desk.proofs.MeetLemmas.{AreFirstApart}
use Rattle.be_desk.proofs.altered.have_common.Given as goal

abbrev pub invariant-loop-place : goal.invariant-loop-place
invariant-loop-place l = AreFirstApart l.one l.other l.place
