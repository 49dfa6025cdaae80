use Rattle.std.proofs.Common.{◌∙◌}
use Rattle.be_script.specs.Script.{declared_by}
use Rattle.be_ready.proofs.Grown.{root_is}
use Rattle.be_ready.proofs.chains.chain_in.Goals as goal

pub add_views-requires-clause-before : goal.add_views-requires-clause-before
add_views-requires-clause-before c = c.in_ok-chain.ensures ∙ root_is (declared_by c.args.script.now) c.args.w
