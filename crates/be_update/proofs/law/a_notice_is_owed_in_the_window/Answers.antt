use Rattle.be_update.proofs.NoticeLemmas.{owed_as_the_machine}
use Rattle.be_update.proofs.law.a_notice_is_owed_in_the_window.Goals as goal

pub returns : goal.returns
returns c = owed_as_the_machine
