-- One hop more.
use Rattle.std.proofs.Common.{ap, sym, ◌∙◌, map, add-one}
use Rattle.be_script.specs.Costs.{cost_before, table}
use Rattle.be_script.proofs.costs.table.costs.Goals as goal

pub loop-hop-init : goal.loop-hop-init
unfolding table
loop-hop-init c = c.in_ok-costs.ensures

pub loop-hop-preserved : goal.loop-hop-preserved
unfolding table
loop-hop-preserved c =
    c.in_ok-costs-2.ensures ∙ ap (λ costs. map (cost_before costs) c.args.parts.now) (c.deref.ensures.value ∙ c.loop-hop.invariant)
    ∙ ap (λ n. table n c.args.parts.now) (sym (add-one c.loop-hop._hop))
