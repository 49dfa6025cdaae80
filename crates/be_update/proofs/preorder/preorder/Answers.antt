use Rattle.std.proofs.Common.{◌++◌, ap₂, ◌∙◌}
use Rattle.be_views.specs.Trees.{preorder, preorder_from}
use Rattle.be_update.proofs.preorder.preorder.Goals as goal

pub returns : goal.returns
unfolding preorder
returns c =
    c.in_ok-add_below.ensures
    ∙ ap₂ (λ vs n. vs ++ preorder_from n c.args.tree.now 0) c.in_ok-views.ensures.items c.len-2.ensures.number
