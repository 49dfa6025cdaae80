-- A view stands behind the others where it is the window's.
use Rattle.std.specs.Prelude.{◌==◌}
use Rattle.std.specs.List.{filter}
use Rattle.std.proofs.Common.{SFits, w16, rules, refl, ◌≡◌, ◌∷◌, List, length, map, ap, ◌∙◌, arith}
use Rattle.std.proofs.lemmas.Int.{to_z-of_z}
use Rattle.std.proofs.lemmas.List.{take_all}
use Rattle.be_script.specs.Windows.{declared_view, root_view, tree_of}
use Rattle.be_script.specs.declared.ViewLine.{ViewLine}
use Rattle.be_script.proofs.FrameLemmas.{frame_sized}
use Rattle.be_opening.proofs.Colored.{other_more, own_more}
use Rattle.be_opening.proofs.views.tree_of.Goals as goal
use Rattle.be_opening.proofs.views.tree_of.Goals.{then-view-w+in-Ok, else-view-w}

pub loop-view-init : goal.loop-view-init
loop-view-init c =
    let sized = frame_sized c.args.line.now.frame c.requires in
    let wide : SFits w16 c.size_of-width.result.0 = search rules in
    let high : SFits w16 c.size_of-width.result.1 = search rules in
    let is = simp to_z-of_z at c.in_ok-tree.ensures in
    is ∙ rw (c.size_of-width.ensures.width, c.size_of-width.ensures.height) refl

pub loop-view-preserved : goal.loop-view-preserved
loop-view-preserved c =
    elim c.if-view-w.branch [
      | then-view-w+in-Ok w ↦
          own_more declared_view (root_view c.args.line.now) c.args.w c.args.script.now.views.items c.deref-view-items.result.now c.loop-view.view-index c.view-item.result c.loop-view.tree c.if-view-w.tree
          c.deref-view-items.ensures.value c.loop-view-test.true c.view-item.is c.loop-view.invariant w.if-view-w.true (w.tree-is ∙ w.in-Ok.ensures.added)
      | else-view-w w ↦
          other_more declared_view (root_view c.args.line.now) c.args.w c.args.script.now.views.items c.deref-view-items.result.now c.loop-view.view-index c.view-item.result c.loop-view.tree c.if-view-w.tree
          c.deref-view-items.ensures.value c.loop-view-test.true c.view-item.is c.loop-view.invariant w.if-view-w.false w.tree-is
    ]

pub returns : goal.returns
unfolding tree_of
returns c =
    let count : length c.deref-view-items.result.now ≡ length c.args.script.now.views.items = ap length c.deref-view-items.ensures.value in
    c.loop-view.invariant
    ∙ ap (λ (l : List ViewLine). root_view c.args.line.now ∷ map declared_view (filter (λ view. view.window == c.args.w) l)) (take_all c.loop-view.view-index c.args.script.now.views.items (omega arith))
