use Rattle.be_update.proofs.BegunLemmas.{stays_whole}
use Rattle.be_update.proofs.law.a_whole_pane_stays_whole.Goals as goal

pub returns : goal.returns
returns c = stays_whole
