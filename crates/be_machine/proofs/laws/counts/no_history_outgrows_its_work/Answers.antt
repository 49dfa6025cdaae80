use Rattle.be_machine.proofs.WorkHistory.{history_bound}
use Rattle.be_machine.proofs.laws.counts.no_history_outgrows_its_work.Goals as goal

pub returns : goal.returns
returns c = history_bound
