-- The windows so far.
use Rattle.std.proofs.Common.{◌≡◌}
use Rattle.be_script.specs.Costs.{limited, most_below}
use Rattle.be_script.proofs.costs.input.most_cost.Given as goal

abbrev pub invariant-loop-window : goal.invariant-loop-window
invariant-loop-window l = l.most ≡ limited (most_below l.routes l.costs l.what l.window)
