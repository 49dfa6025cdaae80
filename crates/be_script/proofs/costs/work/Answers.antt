-- The parts of the sum together.
use Rattle.std.proofs.Common.{map, ap, ◌∙◌}
use Rattle.be_script.specs.Costs.{part_of, table}
use Rattle.be_script.specs.Routes.{routed_number}
use Rattle.be_script.specs.Script.{declared_by}
use Rattle.be_script.proofs.WorkInput.{work-is}
use Rattle.be_script.proofs.costs.work.Goals as goal

pub returns : goal.returns
returns c =
    let u = c.updates_cost-updates.result in
    let routes = c.in_ok-routes.routes in
    work-is (declared_by c.args.script.now) routes u c.in_ok-costs.costs.items c.most_costs-most.result
    c.apps_cost-apps.result c.input_cost-input.result c.saturating_add-2.result c.requires c.in_ok-routes.ensures c.updates_cost-updates.ensures
    (c.in_ok-costs.ensures ∙ ap (table 7) (c.deref-2.ensures.value ∙ c.in_ok-parts.ensures ∙ ap (map (part_of (routed_number routes) u)) c.deref.ensures.value))
    (rw c.deref-5.ensures.value at c.most_costs-most.ensures.down) (rw c.deref-5.ensures.value at c.most_costs-most.ensures.up)
    (rw c.deref-5.ensures.value at c.most_costs-most.ensures.moved) (rw c.deref-5.ensures.value at c.most_costs-most.ensures.key)
    (rw (c.deref-3.ensures.value, c.deref-4.ensures.value) at c.apps_cost-apps.ensures)
    (rw c.deref-6.ensures.value at c.input_cost-input.ensures)
    (rw c.saturating_add.ensures at c.saturating_add-2.ensures)
