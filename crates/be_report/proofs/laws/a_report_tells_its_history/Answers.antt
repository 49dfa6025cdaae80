use Rattle.be_report.proofs.LegalHistories.{legal_is_possible, report_tells_history}
use Rattle.be_report.proofs.laws.a_report_tells_its_history.Goals as goal

pub returns-clause-possible : goal.returns-clause-possible
returns-clause-possible c = legal_is_possible

pub returns-clause-tells : goal.returns-clause-tells
returns-clause-tells c = report_tells_history
