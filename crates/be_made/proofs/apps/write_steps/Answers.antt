use Rattle.std.proofs.Common.{arith}
use Rattle.be_made.proofs.Loops.{begun, ended, goes_on}
use Rattle.be_made.specs.Made.{locked_text}
use Rattle.be_made.proofs.apps.write_steps.Goals as goal

pub loop-step-init : goal.loop-step-init
loop-step-init c = begun locked_text 40 c.args.draws.now c.args.text.now.items

pub loop-step-preserved : goal.loop-step-preserved
loop-step-preserved c =
    goes_on locked_text 40 _ _ c.loop-step.step _ _ c.loop-step.invariant _ _ (omega arith)
    c.in_ok-write_step.ensures

pub returns : goal.returns
returns c = ended locked_text 40 _ _ c.loop-step.step _ _ c.loop-step.invariant (omega arith)
