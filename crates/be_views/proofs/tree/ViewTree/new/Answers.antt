use Rattle.std.proofs.Common.{◌≡◌, [], ◌∷◌, rules, refl}
use Rattle.be_views.specs.Whole.{root_view}
use Rattle.be_views.proofs.TreeLemmas.{tree_of_one}
use Rattle.be_views.proofs.tree.ViewTree.new.Goals as goal

pub invariant_of-result : goal.invariant_of-result
invariant_of-result c =
    let e : c.push.new.self.items ≡ root_view c.args.width c.args.height ∷ [] = search rules in
    rw e (tree_of_one (root_view c.args.width c.args.height) refl refl)
