use Rattle.be_paint.specs.Laying.{ink_of}
use Rattle.be_twin.proofs.MadeLemmas.{inked_by}
use Rattle.be_twin.proofs.drawing.draw.Goals as goal

pub returns : goal.returns
returns c = inked_by c.args.view (ink_of c.args.ink.now) c.args.pane.now c.lay.new.pane c.set_pen.new.pane c.pen_after.result c.state_of.result c.lay.ensures c.set_pen.ensures c.state_of.ensures.state c.pen_after.ensures
