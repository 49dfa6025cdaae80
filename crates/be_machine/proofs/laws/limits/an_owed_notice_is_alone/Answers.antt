use Rattle.be_machine.proofs.KeptOwed.{owed_alone}
use Rattle.be_machine.proofs.laws.limits.an_owed_notice_is_alone.Goals as goal

pub returns : goal.returns
returns c = owed_alone
