use Rattle.be_desk.proofs.StandLemmas.{panes_are_whole}
use Rattle.be_desk.proofs.law.panes_of_a_desk_are_whole.Goals as goal

pub returns : goal.returns
returns c = panes_are_whole
