-- The events so far.
use Rattle.std.proofs.Common.{◌≡◌, take}
use Rattle.std.specs.Prelude.{sum_by}
use Rattle.be_script.specs.Costs.{limited, event_cost}
use Rattle.be_script.proofs.costs.input.input_cost.Given as goal

abbrev pub invariant-loop-event : goal.invariant-loop-event
invariant-loop-event l = l.cost ≡ limited (sum_by (event_cost l.most l.updates) (take l.event-index l.input))
