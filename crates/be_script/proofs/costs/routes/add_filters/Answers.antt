-- A line gets its window a filter.
use Rattle.std.proofs.Common.{None, get_or}
use Rattle.be_handler.specs.declared.Rule.TheVariants.{Skip}
use Rattle.be_script.specs.declared.FilterLine.{FilterLine}
use Rattle.be_script.specs.Script.{declared_by}
use Rattle.be_script.proofs.WorkChains.{filter-within, filter-fits, filter-step, item}
use Rattle.be_script.proofs.costs.routes.add_filters.Goals as goal

no_line : FilterLine
no_line = record { window = 0; list = None; what = None; rule = Skip }

pub bounds-windows-from : goal.bounds-windows-from
unfolding no_line
bounds-windows-from c =
    let line = get_or c.deref-line-items.result.now c.loop-line.line-index no_line in
    filter-within (declared_by c.args.script.now) c.loop-line.windows c.deref-line-items.result.now c.loop-line.line-index c.from.result line
    c.requires.routable c.loop-line.invariant c.deref-line-items.ensures.value c.loop-line-test.true
    (item c.deref-line-items.result.now c.loop-line.line-index no_line c.loop-line-test.true) c.from.ensures

pub add_filter-requires : goal.add_filter-requires
unfolding no_line
add_filter-requires c =
    let line = get_or c.deref-line-items.result.now c.loop-line.line-index no_line in
    filter-fits (declared_by c.args.script.now) c.loop-line.windows c.deref-line-items.result.now c.loop-line.line-index c.from.result line c.index-windows-from.result
    c.requires.routable c.loop-line.invariant c.deref-line-items.ensures.value c.loop-line-test.true
    (item c.deref-line-items.result.now c.loop-line.line-index no_line c.loop-line-test.true) c.from.ensures

pub loop-line-preserved : goal.loop-line-preserved
unfolding no_line
loop-line-preserved c =
    let line = get_or c.deref-line-items.result.now c.loop-line.line-index no_line in
    filter-step (declared_by c.args.script.now) c.loop-line.windows c.deref-line-items.result.now c.loop-line.line-index c.from.result line c.index-windows-from.result c.add_filter.new.self
    c.requires.routable c.loop-line.invariant c.deref-line-items.ensures.value c.loop-line-test.true
    (item c.deref-line-items.result.now c.loop-line.line-index no_line c.loop-line-test.true) c.from.ensures c.in_ok-add_filter.ensures
