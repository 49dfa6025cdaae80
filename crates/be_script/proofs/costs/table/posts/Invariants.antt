-- The instructions so far.
use Rattle.std.proofs.Common.{◌≡◌, take}
use Rattle.be_script.specs.Costs.{posts_of}
use Rattle.be_script.specs.Routes.{routed_number}
use Rattle.be_script.proofs.costs.table.posts.Given as goal

abbrev pub invariant-loop-step : goal.invariant-loop-step
invariant-loop-step l = l.posts.items ≡ posts_of (routed_number l.routes) l.line.what (take l.step-index l.step-items)
