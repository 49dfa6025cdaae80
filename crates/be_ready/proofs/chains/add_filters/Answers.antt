use Rattle.std.proofs.Common.{None, get_or, ◌∙◌}
use Rattle.be_handler.specs.declared.Rule.TheVariants.{Skip}
use Rattle.be_script.proofs.WorkChains.{item}
use Rattle.be_script.specs.Script.{declared_by}
use Rattle.be_script.specs.declared.FilterLine.{FilterLine}
use Rattle.be_ready.proofs.Grown.{filter_here, filter_other}
use Rattle.be_ready.proofs.chains.add_filters.Goals.{then-line-w+in_ok-add_filter, else-line-w}
use Rattle.be_ready.proofs.chains.add_filters.Goals as goal

no_line : FilterLine
no_line = record { window = 0; list = None; what = None; rule = Skip }

pub loop-line-preserved : goal.loop-line-preserved
unfolding no_line
loop-line-preserved c =
    let line = get_or c.deref-line-items.result.now c.loop-line.line-index no_line in
    let read = item c.deref-line-items.result.now c.loop-line.line-index no_line c.loop-line-test.true in
    elim c.if-line-w.branch [
      | then-line-w+in_ok-add_filter w ↦
          w.chain-is
          ∙ filter_here (declared_by c.args.script.now) c.args.w c.loop-line.line-index c.loop-line.chain c.deref-line-items.result.now line c.deref-line-items.ensures.value c.loop-line-test.true read
          c.loop-line.invariant w.add_filter.new.chain w.if-line-w.true w.in_ok-add_filter.ensures
      | else-line-w w ↦
          w.chain-is
          ∙ filter_other (declared_by c.args.script.now) c.args.w c.loop-line.line-index c.loop-line.chain c.deref-line-items.result.now line c.deref-line-items.ensures.value c.loop-line-test.true read
          c.loop-line.invariant w.if-line-w.false
    ]
