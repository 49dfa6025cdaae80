-- The Draw bodies so far.
use Rattle.std.proofs.Common.{◌≡◌, take}
use Rattle.std.specs.Prelude.{sum_by}
use Rattle.be_script.specs.Costs.{limited, own_cost}
use Rattle.be_script.proofs.costs.updates.draws_cost.Given as goal

abbrev pub invariant-loop-line : goal.invariant-loop-line
invariant-loop-line l = l.cost ≡ limited (sum_by (λ line. sum_by (own_cost 0) line.program) (take l.line-index l.draws))
