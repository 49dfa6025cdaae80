-- The views so far.
use Rattle.std.proofs.Common.{◌≡◌}
use Rattle.be_script.specs.Costs.{limited, most_at}
use Rattle.be_script.specs.Routes.{routed_number}
use Rattle.be_script.proofs.costs.input.most_cost_in.Given as goal

abbrev pub invariant-loop-view : goal.invariant-loop-view
invariant-loop-view l = l.most ≡ limited (most_at (routed_number l.routes) l.costs l.what l.window l.view)
