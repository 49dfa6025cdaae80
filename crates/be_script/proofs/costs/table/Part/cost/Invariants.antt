-- The posts so far.
use Rattle.std.proofs.Common.{◌≡◌, ◌+◌, take}
use Rattle.std.specs.Prelude.{sum_by}
use Rattle.be_script.specs.Costs.{limited, posted_cost}
use Rattle.be_script.proofs.costs.table.Part.cost.Given as goal

abbrev pub invariant-loop-body : goal.invariant-loop-body
invariant-loop-body l =
    l.cost ≡ limited (l.self.0 + sum_by (posted_cost l.behind) (take l.body-index l.body-items))
