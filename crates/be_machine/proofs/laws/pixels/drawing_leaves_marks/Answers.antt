use Rattle.be_machine.proofs.PixelHistory.{leaves_marks}
use Rattle.be_machine.proofs.laws.pixels.drawing_leaves_marks.Goals as goal

pub returns : goal.returns
returns c = leaves_marks
