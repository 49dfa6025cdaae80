use Rattle.std.proofs.Common.{◌≡◌, Some, length}
use Rattle.std.specs.Prelude.{slice_get}
use Rattle.be_views.specs.Whole.{root_view}
use Rattle.desk_screen.proofs.making.views_of.Given as goal

abbrev pub invariant-loop-child : goal.invariant-loop-child
invariant-loop-child l =
    (slice_get l.tree 0 ≡ Some (root_view l.width l.height)) × (length l.colors.items ≡ length l.tree)
