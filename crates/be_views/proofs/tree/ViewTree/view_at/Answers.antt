use Rattle.std.proofs.Common.{rules}
use Rattle.be_views.specs.Pixels.{view_at}
use Rattle.be_views.proofs.tree.ViewTree.view_at.Goals as goal

pub returns-then-has_pixel : goal.returns-then-has_pixel
unfolding view_at
returns-then-has_pixel c = search rules

pub returns-else-has_pixel : goal.returns-else-has_pixel
unfolding view_at
returns-else-has_pixel c = search rules
