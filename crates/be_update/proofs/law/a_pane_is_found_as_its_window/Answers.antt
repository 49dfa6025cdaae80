use Rattle.be_update.proofs.NoticeLemmas.{found_as_the_machine}
use Rattle.be_update.proofs.law.a_pane_is_found_as_its_window.Goals as goal

pub returns : goal.returns
returns c = found_as_the_machine
