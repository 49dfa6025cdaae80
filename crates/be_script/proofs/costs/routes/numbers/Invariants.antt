-- The bodies so far.
use Rattle.std.proofs.Common.{take}
use Rattle.be_script.specs.Routes.{HasNumbers}
use Rattle.be_script.proofs.costs.routes.numbers.Given as goal

abbrev pub invariant-loop-number : goal.invariant-loop-number
invariant-loop-number l = HasNumbers (take l.number l.script.bodies.items) l.numbers
