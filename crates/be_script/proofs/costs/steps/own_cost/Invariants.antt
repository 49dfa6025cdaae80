-- The instructions so far.
use Rattle.std.proofs.Common.{◌≡◌, take}
use Rattle.std.specs.Prelude.{sum_by}
use Rattle.be_script.specs.Costs.{limited, own_cost}
use Rattle.be_script.proofs.costs.steps.own_cost.Given as goal

abbrev pub invariant-loop-step : goal.invariant-loop-step
invariant-loop-step l = l.cost ≡ limited (sum_by (own_cost l.updates) (take l.step-index l.step-items))
