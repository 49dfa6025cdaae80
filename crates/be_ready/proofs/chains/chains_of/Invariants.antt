use Rattle.std.specs.Prelude.{◌≡◌, map}
use Rattle.std.specs.List.{range_with_len}
use Rattle.be_script.specs.Script.{declared_by}
use Rattle.be_script.specs.Windows.{chain_of}
use Rattle.be_ready.proofs.chains.chains_of.Given as goal

abbrev pub invariant-loop-w : goal.invariant-loop-w
invariant-loop-w l = l.chains.items ≡ map (chain_of (declared_by l.script)) (range_with_len 0 l.w)
