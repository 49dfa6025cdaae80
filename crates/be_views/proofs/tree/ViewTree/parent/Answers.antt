use Rattle.std.proofs.Common.{rules, subst}
use Rattle.be_views.specs.Whole.{IsTree}
use Rattle.be_views.proofs.TreeLemmas.{no_parent, parent_under}
use Rattle.be_views.proofs.tree.ViewTree.parent.Goals as goal

pub returns-clause-none : goal.returns-clause-none
returns-clause-none c =
    let t : IsTree c.args.self.now = subst IsTree c.self.view_is c.self.invariant in
    let none = no_parent c.args.self.now c.args.view t in
    search (rules, none)

pub returns-clause-below : goal.returns-clause-below
returns-clause-below c =
    let t : IsTree c.args.self.now = subst IsTree c.self.view_is c.self.invariant in
    let below = parent_under c.args.self.now c.args.view t in
    search (rules, below)
