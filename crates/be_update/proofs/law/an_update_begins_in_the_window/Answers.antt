use Rattle.be_update.proofs.BegunLemmas.{begun_as_the_machine}
use Rattle.be_update.proofs.law.an_update_begins_in_the_window.Goals as goal

pub returns : goal.returns
returns c = begun_as_the_machine
