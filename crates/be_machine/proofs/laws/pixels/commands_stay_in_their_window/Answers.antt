use Rattle.be_machine.proofs.PixelHistory.{stays_in_window}
use Rattle.be_machine.proofs.laws.pixels.commands_stay_in_their_window.Goals as goal

pub returns : goal.returns
returns c = stays_in_window
