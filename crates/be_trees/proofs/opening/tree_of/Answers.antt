use Rattle.std.proofs.Common.{SFits, w16, rules, refl, ◌≡◌, [], ◌∷◌, ◌++◌, length, ap, ◌∙◌, arith}
use Rattle.std.proofs.lemmas.Int.{to_z-of_z}
use Rattle.be_script.specs.Windows.{root_view, tree_of}
use Rattle.be_views.specs.Trees.{Tree}
use Rattle.be_script.proofs.FrameLemmas.{frame_sized}
use Rattle.be_trees.proofs.Openings.{declared_in, none_left, other_view, own_view}
use Rattle.be_trees.proofs.opening.tree_of.Goals as goal
use Rattle.be_trees.proofs.opening.tree_of.Goals.{then-view-window+in-Ok, else-view-window}

pub loop-view-init : goal.loop-view-init
unfolding tree_of
loop-view-init c =
    let sized = frame_sized c.args.line.now.frame c.requires in
    let wide : SFits w16 c.size_of-width.result.0 = search rules in
    let high : SFits w16 c.size_of-width.result.1 = search rules in
    let is = simp to_z-of_z at c.in_ok-tree.ensures in
    let first : c.in_ok-tree.tree ≡ root_view c.args.line.now ∷ [] =
    is ∙ rw (c.size_of-width.ensures.width, c.size_of-width.ensures.height) refl in
    ap (λ (tree : Tree). tree ++ declared_in c.args.window c.args.script.now.views.items) first

pub loop-view-preserved : goal.loop-view-preserved
loop-view-preserved c =
    elim c.if-view-window.branch [
      | then-view-window+in-Ok w ↦
          own_view c.args.window c.args.script.now.views.items c.deref-view-items.result.now
          c.loop-view.view-index c.view-item.result c.loop-view.tree c.if-view-window.tree
          c.deref-view-items.ensures.value c.loop-view-test.true c.view-item.is
          w.if-view-window.true (w.tree-is ∙ w.in-Ok.ensures.added)
          ∙ c.loop-view.invariant
      | else-view-window w ↦
          other_view c.args.window c.args.script.now.views.items c.deref-view-items.result.now
          c.loop-view.view-index c.view-item.result c.loop-view.tree c.if-view-window.tree
          c.deref-view-items.ensures.value c.loop-view-test.true c.view-item.is
          w.if-view-window.false w.tree-is
          ∙ c.loop-view.invariant
    ]

pub returns : goal.returns
returns c =
    let count : length c.deref-view-items.result.now ≡ length c.args.script.now.views.items =
    ap length c.deref-view-items.ensures.value in
    none_left c.args.window c.args.script.now.views.items c.loop-view.view-index c.loop-view.tree _
    c.loop-view.invariant (omega arith)
