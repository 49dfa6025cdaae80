use Rattle.std.proofs.Common.{arith}
use Rattle.be_made.proofs.Loops.{begun, ended, goes_on}
use Rattle.be_made.specs.Made.{press_text}
use Rattle.be_made.proofs.presses.write_presses.Goals as goal

pub loop-press-init : goal.loop-press-init
loop-press-init c = begun press_text 20 c.args.draws.now c.args.text.now.items

pub loop-press-preserved : goal.loop-press-preserved
loop-press-preserved c =
    goes_on press_text 20 _ _ c.loop-press.press _ _ c.loop-press.invariant _ _ (omega arith)
    c.in_ok-write_press.ensures

pub returns : goal.returns
returns c = ended press_text 20 _ _ c.loop-press.press _ _ c.loop-press.invariant (omega arith)
