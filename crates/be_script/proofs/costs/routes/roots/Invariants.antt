-- The windows so far have a root.
use Rattle.std.proofs.Common.{◌≡◌, replicate, [], ◌∷◌, None}
use Rattle.be_script.specs.Routes.{handlers_with}
use Rattle.be_script.proofs.costs.routes.roots.Given as goal

abbrev pub invariant-loop-window : goal.invariant-loop-window
invariant-loop-window l = l.windows.items ≡ replicate l._window-index (handlers_with record { parents = None ∷ []; nexts = []; filters = []; bodies = [] })
