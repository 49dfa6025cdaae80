use Rattle.be_machine.proofs.PixelHistory.{step_leaves}
use Rattle.be_machine.proofs.laws.pixels.a_pixel_is_changed_by_its_window_alone.Goals as goal

pub returns : goal.returns
returns c = λ d s e u x y legal other was now. (step_leaves d s e legal).kept u x y other was now
