use Rattle.be_machine.proofs.PixelColors.{colors_stay}
use Rattle.be_machine.proofs.laws.cells.colors_change_by_commands_and_events.Goals as goal

pub returns : goal.returns
returns c = colors_stay
