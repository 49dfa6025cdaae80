-- The bodies so far.
use Rattle.std.proofs.Common.{◌≡◌, map, take}
use Rattle.be_script.specs.Costs.{last_cost}
use Rattle.be_script.proofs.costs.table.last_costs.Given as goal

abbrev pub invariant-loop-part : goal.invariant-loop-part
invariant-loop-part l = l.costs.items ≡ map last_cost (take l.part-index l.parts)
