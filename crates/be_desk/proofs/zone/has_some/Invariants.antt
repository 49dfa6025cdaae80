use Rattle.be_desk.proofs.MeetLemmas.{IsBesideFirst}
use Rattle.be_desk.proofs.zone.has_some.Given as goal

abbrev pub invariant-loop-place : goal.invariant-loop-place
invariant-loop-place l = IsBesideFirst l.rect l.region l.place
