use Rattle.std.proofs.Common.{arith}
use Rattle.be_made.proofs.Loops.{begun, ended, goes_on}
use Rattle.be_made.specs.Made.{app_text}
use Rattle.be_made.proofs.apps.write_apps.Goals as goal

pub loop-app-init : goal.loop-app-init
loop-app-init c = begun app_text 4 c.args.draws.now c.args.text.now.items

pub loop-app-preserved : goal.loop-app-preserved
loop-app-preserved c =
    goes_on app_text 4 _ _ c.loop-app.app _ _ c.loop-app.invariant _ _ (omega arith)
    c.in_ok-write_app.ensures

pub returns : goal.returns
returns c = ended app_text 4 _ _ c.loop-app.app _ _ c.loop-app.invariant (omega arith)
