use Rattle.be_update.proofs.BegunLemmas.{surveyed_for_each}
use Rattle.be_update.proofs.law.a_survey_is_for_each_pane_of_its_window.Goals as goal

pub returns : goal.returns
returns c = surveyed_for_each
