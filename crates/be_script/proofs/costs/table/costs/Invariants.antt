-- One hop after another, from the last one on.
use Rattle.std.proofs.Common.{◌≡◌}
use Rattle.be_script.specs.Costs.{table}
use Rattle.be_script.proofs.costs.table.costs.Given as goal

abbrev pub invariant-loop-hop : goal.invariant-loop-hop
invariant-loop-hop l = l.costs.items ≡ table l._hop l.parts
