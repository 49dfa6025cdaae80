-- The new body has its place as number.
use Rattle.be_script.specs.Script.{declared_by}
use Rattle.be_script.proofs.WorkChains.{numbers-step}
use Rattle.be_script.proofs.costs.routes.numbers.Goals as goal

pub loop-number-preserved : goal.loop-number-preserved
loop-number-preserved c =
    numbers-step (declared_by c.args.script.now) c.deref-line-items.result.now c.loop-number.number c.line-item.result c.loop-number.numbers c.insert.new.self
    c.requires c.deref-line-items.ensures.value c.loop-number-test.true c.line-item.is c.loop-number.invariant c.in_ok-insert.ensures
