-- The root and the window's views so far.
use Rattle.std.specs.Prelude.{◌==◌}
use Rattle.std.specs.List.{filter}
use Rattle.std.proofs.Common.{◌≡◌, ◌∷◌, map, take}
use Rattle.be_script.specs.Windows.{declared_view, root_view}
use Rattle.be_opening.proofs.views.tree_of.Given as goal

abbrev pub invariant-loop-view : goal.invariant-loop-view
invariant-loop-view l =
    l.tree ≡ root_view l.line ∷ map declared_view (filter (λ view. view.window == l.w) (take l.view-index l.script.views.items))
