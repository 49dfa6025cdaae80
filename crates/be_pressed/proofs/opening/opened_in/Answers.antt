-- A view's button stands behind the others where the view is the window's.
use Rattle.std.proofs.Common.{◌++◌, ◌<◌, ◌≤◌, ◌∷◌, [], List, length, get_or, map, ap, sym, subst}
use Rattle.std.proofs.Common.{◌∙◌}
use Rattle.std.proofs.lemmas.List.{take_all}
use Rattle.be_control.specs.Buttons.{Button}
use Rattle.be_pressed.proofs.Opened.{at_first, due_of, other_view, own_view}
use Rattle.be_pressed.proofs.opening.opened_in.Goals as goal
use Rattle.be_pressed.proofs.opening.opened_in.Goals.{then-from-w+in_ok-add-2, else-from-w}
use Rattle.be_pressed.specs.Hearing.{at_rest}
use Rattle.be_script.specs.Script.{declared_by}
use Rattle.be_script.specs.declared.ViewLine.{ViewLine}

pub loop-view-preserved : goal.loop-view-preserved
loop-view-preserved c =
    let views = c.args.script.now.views.items in
    let i = c.loop-view.view-index in
    let view = c.view-item.result in
    let value = c.deref-view-items.ensures.value in
    let less = subst (λ (l : List ViewLine). i < length l) value c.loop-view-test.true in
    let is = c.view-item.is ∙ ap (λ (l : List ViewLine). get_or l i view) value in
    elim c.if-from-w.branch [
      | then-from-w+in_ok-add-2 w ↦
          own_view c.args.w c.args.line.now views i view c.loop-view.buttons c.if-from-w.buttons less
          is (sym c.from.ensures ∙ w.if-from-w.true) c.loop-view.invariant
          (w.buttons-is ∙ w.in_ok-add-2.ensures
          ∙ ap (λ (b : Button). c.loop-view.buttons ++ b ∷ []) w.at_rest-then-from-w.ensures)
      | else-from-w w ↦
          other_view c.args.w c.args.line.now views i view c.loop-view.buttons c.if-from-w.buttons
          less is (λ mine. w.if-from-w.false (c.from.ensures ∙ mine)) c.loop-view.invariant
          w.buttons-is
    ]

pub returns : goal.returns
returns c =
    let views = c.args.script.now.views.items in
    let past = subst (λ (l : List ViewLine). length l ≤ c.loop-view.view-index)
    c.deref-view-items.ensures.value c.loop-view-test.false in
    at_first (declared_by c.args.script.now) c.args.w c.args.line.now c.loop-view.buttons
    (c.loop-view.invariant
    ∙ ap (λ (l : List ViewLine). map at_rest (due_of c.args.w c.args.line.now l))
    (take_all c.loop-view.view-index views past))
