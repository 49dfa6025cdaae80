use Rattle.std.proofs.Common.{◌≡◌, ◌++◌, drop}
use Rattle.be_trees.specs.TreeText.{tree_text, views_text}
use Rattle.be_trees.proofs.text.write_tree.Given as goal

-- with the lines of the views that are left it is the whole text
abbrev pub invariant-loop-view : goal.invariant-loop-view
invariant-loop-view l =
    l.text.items ++ views_text l.view (drop l.view l.tree) ≡ tree_text l.tree
