use Rattle.be_desk.proofs.StandLemmas.{planned_for_each}
use Rattle.be_desk.proofs.law.a_plan_is_for_each_pane_of_its_window.Goals as goal

pub returns : goal.returns
returns c = planned_for_each
