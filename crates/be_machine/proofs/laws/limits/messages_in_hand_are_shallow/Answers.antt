use Rattle.be_machine.proofs.KeptLetterSteps.{shallow_hand}
use Rattle.be_machine.proofs.laws.limits.messages_in_hand_are_shallow.Goals as goal

pub returns : goal.returns
returns c = shallow_hand
