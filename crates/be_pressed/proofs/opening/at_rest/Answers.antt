-- Nothing was heard yet.
use Rattle.be_control.specs.Buttons.{is_armed}
use Rattle.be_pressed.proofs.opening.at_rest.Goals as goal

pub returns : goal.returns
unfolding is_armed
returns c = cc
