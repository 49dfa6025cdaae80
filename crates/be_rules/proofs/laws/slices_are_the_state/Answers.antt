use Rattle.be_machine.specs.History.{state_after}
use Rattle.be_rules.proofs.Cut.{put_together}
use Rattle.be_rules.proofs.Lawfully.{whole_after}
use Rattle.be_rules.proofs.laws.slices_are_the_state.Goals as goal

pub returns : goal.returns
returns c = λ d h limits legal. put_together d (state_after d h) (whole_after d h limits legal)
