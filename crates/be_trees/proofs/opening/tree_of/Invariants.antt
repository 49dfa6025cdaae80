use Rattle.std.proofs.Common.{◌≡◌, ◌++◌, drop}
use Rattle.be_script.specs.Script.{declared_by}
use Rattle.be_script.specs.Windows.{tree_of}
use Rattle.be_trees.proofs.Openings.{declared_in}
use Rattle.be_trees.proofs.opening.tree_of.Given as goal

-- with the window's views that are left it is the whole tree
abbrev pub invariant-loop-view : goal.invariant-loop-view
invariant-loop-view l =
    l.tree ++ declared_in l.window (drop l.view-index l.script.views.items)
    ≡ tree_of (declared_by l.script) l.window l.line
