-- A view's colour stands behind the others where the view is the window's.
use Rattle.std.specs.Prelude.{◌==◌}
use Rattle.std.specs.List.{filter}
use Rattle.std.proofs.Common.{◌≡◌, ◌∷◌, List, length, map, ap, ◌∙◌, arith}
use Rattle.std.proofs.lemmas.List.{take_all}
use Rattle.be_script.specs.Windows.{colors_of}
use Rattle.be_script.specs.declared.ViewLine.{ViewLine}
use Rattle.be_opening.proofs.Colored.{other_more, own_more}
use Rattle.be_opening.proofs.views.colors_of.Goals as goal
use Rattle.be_opening.proofs.views.colors_of.Goals.{then-view-w+in_ok-push-2, else-view-w}

pub loop-view-preserved : goal.loop-view-preserved
loop-view-preserved c =
    elim c.if-view-w.branch [
      | then-view-w+in_ok-push-2 w ↦
          own_more (λ view. view.color) c.args.line.now.color c.args.w c.args.script.now.views.items c.deref-view-items.result.now c.loop-view.view-index c.view-item.result c.loop-view.colors.items c.if-view-w.colors.items
          c.deref-view-items.ensures.value c.loop-view-test.true c.view-item.is c.loop-view.invariant w.if-view-w.true (ap (λ v. v.items) w.colors-is ∙ w.in_ok-push-2.ensures.items)
      | else-view-w w ↦
          other_more (λ view. view.color) c.args.line.now.color c.args.w c.args.script.now.views.items c.deref-view-items.result.now c.loop-view.view-index c.view-item.result c.loop-view.colors.items c.if-view-w.colors.items
          c.deref-view-items.ensures.value c.loop-view-test.true c.view-item.is c.loop-view.invariant w.if-view-w.false (ap (λ v. v.items) w.colors-is)
    ]

pub returns : goal.returns
unfolding colors_of
returns c =
    let count : length c.deref-view-items.result.now ≡ length c.args.script.now.views.items = ap length c.deref-view-items.ensures.value in
    c.loop-view.invariant
    ∙ ap (λ (l : List ViewLine). c.args.line.now.color ∷ map (λ view. view.color) (filter (λ view. view.window == c.args.w) l)) (take_all c.loop-view.view-index c.args.script.now.views.items (omega arith))
