use Rattle.be_report.proofs.TextAlone.{only_its_text}
use Rattle.be_report.proofs.TextBack.{text_tells_history}
use Rattle.be_report.proofs.laws.a_history_is_told_by_its_text.Goals as goal

pub returns-clause-tells : goal.returns-clause-tells
returns-clause-tells c = text_tells_history

pub returns-clause-alone : goal.returns-clause-alone
returns-clause-alone c = only_its_text
