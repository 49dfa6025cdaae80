use Rattle.be_desk.proofs.StandLemmas.{others_as_machine}
use Rattle.be_desk.proofs.law.other_windows_stay.Goals as goal

pub returns : goal.returns
returns c = others_as_machine
