use Rattle.be_check.proofs.Deciding.{finished_or_illegal}
use Rattle.be_check.proofs.Illegal.{not_both, one_alone}
use Rattle.be_check.proofs.laws.a_history_is_finished_or_illegal.Goals as goal

pub returns-clause-one : goal.returns-clause-one
returns-clause-one c = finished_or_illegal

pub returns-clause-not_both : goal.returns-clause-not_both
returns-clause-not_both c = not_both

pub returns-clause-alone : goal.returns-clause-alone
returns-clause-alone c = one_alone
