use Rattle.be_machine.proofs.KeptSessions.{no_session}
use Rattle.be_machine.proofs.laws.limits.no_session_is_open_at_a_begin.Goals as goal

pub returns : goal.returns
returns c = no_session
