-- The instructions so far.
use Rattle.std.proofs.Common.{◌≡◌, take}
use Rattle.std.specs.Prelude.{sum_by}
use Rattle.be_script.specs.Costs.{limited, app_step_cost}
use Rattle.be_script.specs.Routes.{routed_number}
use Rattle.be_script.proofs.costs.steps.app_cost.Given as goal

abbrev pub invariant-loop-step : goal.invariant-loop-step
invariant-loop-step l =
    l.cost ≡ limited (sum_by (app_step_cost (routed_number l.routes) l.costs l.updates) (take l.step-index l.step-items))
