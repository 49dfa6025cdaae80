-- One more window with a root.
use Rattle.std.proofs.Common.{arith, ap, ◌∙◌, ◌≡◌, ◌++◌, ◌∷◌, [], length}
use Rattle.std.proofs.lemmas.List.{replicate_more}
use Rattle.be_script.specs.Script.{declared_by}
use Rattle.be_script.proofs.WorkChains.{roots-are}
use Rattle.be_script.proofs.costs.routes.roots.Goals as goal

pub loop-window-preserved : goal.loop-window-preserved
loop-window-preserved c =
    c.in_ok-push.ensures.items ∙ ap (λ xs. xs ++ c.in_ok-new.field-0 ∷ []) c.loop-window.invariant
    ∙ rw c.in_ok-new.ensures (replicate_more c.loop-window._window-index _)

pub returns : goal.returns
returns c =
    let count : length c.deref-window-items.result.now ≡ length c.args.script.now.windows.items = ap length c.deref-window-items.ensures.value in
    roots-are (declared_by c.args.script.now) c.loop-window.windows.items c.loop-window._window-index c.loop-window.invariant (omega arith)
