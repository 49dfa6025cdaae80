use Rattle.be_desk.proofs.ShownLemmas.{panes_show_a_screen}
use Rattle.be_desk.proofs.law.panes_of_a_desk_show_a_screen.Goals as goal

pub returns : goal.returns
returns c = panes_show_a_screen
