use Rattle.std.proofs.Common.{◌≡◌, ◌<◌, length, rules, refl, subst}
use Rattle.be_views.specs.Whole.{IsTree, with_view, depth_of}
use Rattle.be_views.proofs.TreeLemmas.{tree_of_push}
use Rattle.be_views.proofs.tree.ViewTree.add.Goals as goal

pub invariant_of-self-2 : goal.invariant_of-self-2
invariant_of-self-2 c =
    let t : IsTree c.args.self.now = subst IsTree c.self.view_is c.self.invariant in
    let e : c.push.new.self.items ≡ with_view c.args.self.now c.args.parent c.args.frame c.args.mode = search rules in
    let h : c.args.parent < length c.args.self.now = search rules in
    let low : depth_of c.args.self.now c.args.parent < 8 = search rules in
    let room : length c.args.self.now < 32 = search rules in
    rw e (tree_of_push c.args.self.now _ c.args.parent t refl h low room)
