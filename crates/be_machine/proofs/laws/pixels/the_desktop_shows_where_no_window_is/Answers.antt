use Rattle.be_machine.proofs.PixelHistory.{desktop_after}
use Rattle.be_machine.proofs.laws.pixels.the_desktop_shows_where_no_window_is.Goals as goal

pub returns : goal.returns
returns c = λ d h x y legal none. desktop_after d h x y legal none
