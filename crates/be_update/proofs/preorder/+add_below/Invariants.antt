use Rattle.std.proofs.Common.{◌≡◌, ◌++◌, ◌∷◌, ◌-◌, drop}
use Rattle.std.specs.List.{flat_map}
use Rattle.be_views.specs.Trees.{children_from, children_of, preorder_from}
use Rattle.be_update.proofs.preorder.+add_below.Given as goal

abbrev pub decreases-add_below : goal.decreases-add_below
decreases-add_below l = l.levels

abbrev pub invariant-loop-child : goal.invariant-loop-child
invariant-loop-child l =
    l.views.items ++ flat_map (λ child. preorder_from (l.levels - 1) l.tree child.0) (children_from l.child l.view (drop l.child l.tree))
    ≡ l.fn.views.items ++ (l.view ∷ flat_map (λ child. preorder_from (l.levels - 1) l.tree child.0) (children_of l.tree l.view))
