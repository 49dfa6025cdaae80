use Rattle.std.proofs.Common.{arith}
use Rattle.be_made.proofs.Loops.{begun, ended, goes_on}
use Rattle.be_made.specs.Made.{window_text}
use Rattle.be_made.proofs.windows.write_windows.Goals as goal

pub loop-window-init : goal.loop-window-init
loop-window-init c = begun window_text 8 c.args.draws.now c.args.text.now.items

pub loop-window-preserved : goal.loop-window-preserved
loop-window-preserved c =
    goes_on window_text 8 _ _ c.loop-window.window _ _ c.loop-window.invariant _ _ (omega arith)
    c.in_ok-write_window.ensures

pub returns : goal.returns
returns c = ended window_text 8 _ _ c.loop-window.window _ _ c.loop-window.invariant (omega arith)
