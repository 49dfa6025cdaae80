-- A line gets its window a body.
use Rattle.be_script.specs.Script.{declared_by}
use Rattle.be_script.proofs.WorkChains.{body-within, body-fits, body-step}
use Rattle.be_script.proofs.costs.routes.add_bodies.Goals as goal

pub bounds-windows-from : goal.bounds-windows-from
bounds-windows-from c =
    body-within (declared_by c.args.script.now) c.loop-line.windows c.deref-line-items.result.now c.loop-line.line-index c.from.result c.line-item.result
    c.requires.routable c.loop-line.invariant c.deref-line-items.ensures.value c.loop-line-test.true c.line-item.is c.from.ensures

pub add_body-requires : goal.add_body-requires
add_body-requires c =
    body-fits (declared_by c.args.script.now) c.loop-line.windows c.deref-line-items.result.now c.loop-line.line-index c.from.result c.line-item.result c.index-windows-from.result
    c.requires.routable c.loop-line.invariant c.deref-line-items.ensures.value c.loop-line-test.true c.line-item.is c.from.ensures

pub loop-line-preserved : goal.loop-line-preserved
loop-line-preserved c =
    body-step (declared_by c.args.script.now) c.loop-line.windows c.deref-line-items.result.now c.loop-line.line-index c.from.result c.line-item.result c.index-windows-from.result c.add_body.new.self
    c.requires.routable c.loop-line.invariant c.deref-line-items.ensures.value c.loop-line-test.true c.line-item.is c.from.ensures c.in_ok-add_body.ensures
