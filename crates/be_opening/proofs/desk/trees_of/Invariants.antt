-- The views of the windows so far.
use Rattle.std.specs.List.{enumerate_from}
use Rattle.std.proofs.Common.{◌≡◌, map, take}
use Rattle.be_script.specs.Script.{declared_by}
use Rattle.be_script.specs.Windows.{tree_of}
use Rattle.be_opening.proofs.desk.trees_of.Given as goal

abbrev pub invariant-loop-w : goal.invariant-loop-w
invariant-loop-w l =
    l.trees.items ≡ map (λ p. tree_of (declared_by l.script) p.0 p.1) (enumerate_from 0 (take l.w l.script.windows.items))
