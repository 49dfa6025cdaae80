-- The bodies so far.
use Rattle.std.proofs.Common.{◌≡◌, map, take}
use Rattle.be_script.specs.Costs.{part_of}
use Rattle.be_script.specs.Routes.{routed_number}
use Rattle.be_script.proofs.costs.table.parts.Given as goal

abbrev pub invariant-loop-line : goal.invariant-loop-line
invariant-loop-line l = l.parts.items ≡ map (part_of (routed_number l.routes) l.updates) (take l.line-index l.bodies)
