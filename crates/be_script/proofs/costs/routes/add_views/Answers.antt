-- A line gets its window a view.
use Rattle.std.proofs.Common.{refl}
use Rattle.be_script.specs.Script.{declared_by}
use Rattle.be_script.proofs.WorkChains.{view-within, view-at, view-fits, view-step}
use Rattle.be_script.proofs.costs.routes.add_views.Goals as goal

pub bounds-windows-from : goal.bounds-windows-from
bounds-windows-from c =
    view-within (declared_by c.args.script.now) c.loop-line.windows c.deref-line-items.result.now c.loop-line.line-index c.from.result c.line-item.result
    c.requires.routable c.loop-line.invariant c.deref-line-items.ensures.value c.loop-line-test.true c.line-item.is c.from.ensures

pub add_view-requires-clause-counted : goal.add_view-requires-clause-counted
add_view-requires-clause-counted c =
    rw (view-at (declared_by c.args.script.now) c.loop-line.windows c.deref-line-items.result.now c.loop-line.line-index c.from.result c.line-item.result c.index-windows-from.result
    c.requires.routable c.loop-line.invariant c.deref-line-items.ensures.value c.loop-line-test.true c.line-item.is c.from.ensures) refl

pub add_view-requires-clause-fits : goal.add_view-requires-clause-fits
add_view-requires-clause-fits c =
    view-fits (declared_by c.args.script.now) c.loop-line.windows c.deref-line-items.result.now c.loop-line.line-index c.from.result c.line-item.result c.index-windows-from.result
    c.requires.routable c.loop-line.invariant c.deref-line-items.ensures.value c.loop-line-test.true c.line-item.is c.from.ensures

pub loop-line-preserved : goal.loop-line-preserved
loop-line-preserved c =
    view-step (declared_by c.args.script.now) c.loop-line.windows c.deref-line-items.result.now c.loop-line.line-index c.from.result c.line-item.result c.index-windows-from.result c.add_view.new.self
    c.requires.routable c.loop-line.invariant c.deref-line-items.ensures.value c.loop-line-test.true c.line-item.is c.from.ensures c.in_ok-add_view.ensures
