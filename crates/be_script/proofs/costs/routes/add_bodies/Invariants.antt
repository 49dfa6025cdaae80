-- The bodies so far.
use Rattle.be_script.specs.Routable.{bodies_before}
use Rattle.be_script.specs.Routes.{HasChains}
use Rattle.be_script.specs.Script.{declared_by}
use Rattle.be_script.proofs.costs.routes.add_bodies.Given as goal

abbrev pub invariant-loop-line : goal.invariant-loop-line
invariant-loop-line l = HasChains (bodies_before (declared_by l.script) l.line-index) l.windows
