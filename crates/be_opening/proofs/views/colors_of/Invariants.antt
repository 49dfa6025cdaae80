-- The colours of the root and of the window's views so far.
use Rattle.std.specs.Prelude.{◌==◌}
use Rattle.std.specs.List.{filter}
use Rattle.std.proofs.Common.{◌≡◌, ◌∷◌, map, take}
use Rattle.be_opening.proofs.views.colors_of.Given as goal

abbrev pub invariant-loop-view : goal.invariant-loop-view
invariant-loop-view l =
    l.colors.items ≡ l.line.color ∷ map (λ view. view.color) (filter (λ view. view.window == l.w) (take l.view-index l.script.views.items))
