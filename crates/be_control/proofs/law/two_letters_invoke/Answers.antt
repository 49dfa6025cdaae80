use Rattle.be_control.proofs.Armed.{by_two, two_letters}
use Rattle.be_control.proofs.law.two_letters_invoke.Goals as goal

pub returns : goal.returns
returns c = λ bounds before h. (two_letters bounds before h, by_two bounds before h)
