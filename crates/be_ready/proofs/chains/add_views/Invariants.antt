use Rattle.std.proofs.Common.{◌≡◌}
use Rattle.be_script.specs.Routable.{views_before}
use Rattle.be_script.specs.Script.{declared_by}
use Rattle.be_script.specs.Windows.{chain_of}
use Rattle.be_ready.proofs.chains.add_views.Given as goal

abbrev pub invariant-loop-line : goal.invariant-loop-line
invariant-loop-line l = l.chain ≡ chain_of (views_before (declared_by l.script) l.line-index) l.w
