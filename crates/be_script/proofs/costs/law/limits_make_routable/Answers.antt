-- Each limit in turn.
use Rattle.be_script.specs.Script.{declared_by}
use Rattle.be_script.proofs.RoutableLemmas.{routable}
use Rattle.be_script.proofs.costs.law.limits_make_routable.Goals as goal

pub returns : goal.returns
returns c = routable (declared_by c.args.script.now) c.requires
