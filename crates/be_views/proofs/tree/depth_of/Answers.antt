use Rattle.std.proofs.Common.{rules}
use Rattle.be_views.specs.Whole.{depth_of}
use Rattle.be_views.proofs.tree.depth_of.Goals as goal

pub returns : goal.returns
unfolding depth_of
returns c = search rules
