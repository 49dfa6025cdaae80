-- A filter that skips ends the whole list.
use Rattle.std.proofs.Common.{arith, sym, ◌∙◌}
use Rattle.be_handler.proofs.FilterLemmas.{filtered-skips}
use Rattle.be_handler.proofs.filter.filtered.Goals as goal

pub returns-in_err-at : goal.returns-in_err-at
returns-in_err-at c =
    c.from_residual.ensures ∙ sym (filtered-skips c.args.what c.args.list c.args.filters.now c.loop-filter.filter-index c.filter-item.result
    c.loop-filter.at c.args.target (omega arith) c.filter-item.is (sym c.is_in.ensures ∙ c.if-is_in.true)
    (sym c.step.ensures ∙ c.in_err-at.was {u = tt}) c.loop-filter.invariant)
