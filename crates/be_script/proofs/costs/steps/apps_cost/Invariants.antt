-- The applications so far.
use Rattle.std.proofs.Common.{◌≡◌, take}
use Rattle.std.specs.Prelude.{sum_by}
use Rattle.be_script.specs.Costs.{limited, app_step_cost}
use Rattle.be_script.specs.Routes.{routed_number}
use Rattle.be_script.proofs.costs.steps.apps_cost.Given as goal

abbrev pub invariant-loop-app : goal.invariant-loop-app
invariant-loop-app l =
    l.cost ≡ limited (sum_by (λ app. sum_by (app_step_cost (routed_number l.routes) l.costs l.updates) app.program) (take l.app-index l.apps))
