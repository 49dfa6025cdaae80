use Rattle.std.proofs.Common.{rules, subst}
use Rattle.be_views.specs.Trees.{place_of}
use Rattle.be_views.specs.Whole.{IsTree}
use Rattle.be_views.proofs.TreeLemmas.{no_place}
use Rattle.be_views.proofs.tree.ViewTree.place_of.Goals as goal

pub returns-clause-none : goal.returns-clause-none
unfolding place_of
returns-clause-none c =
    let t : IsTree c.args.self.now = subst IsTree c.self.view_is c.self.invariant in
    let none = no_place c.args.self.now c.args.view t in
    search (rules, none)

pub returns-clause-place : goal.returns-clause-place
unfolding place_of
returns-clause-place c = search rules
