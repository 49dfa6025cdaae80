-- The bodies so far.
use Rattle.std.proofs.Common.{◌≡◌, map, take}
use Rattle.be_script.specs.Costs.{cost_before}
use Rattle.be_script.proofs.costs.table.costs_before.Given as goal

abbrev pub invariant-loop-part : goal.invariant-loop-part
invariant-loop-part l = l.costs.items ≡ map (cost_before l.behind) (take l.part-index l.parts)
