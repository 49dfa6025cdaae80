use Rattle.std.proofs.Common.{length, ◌+◌, ◌*◌}
use Rattle.be_descent.specs.Cutting.{extent_of}
use Rattle.be_descent.proofs.descending.+below.Given as goal

-- The frames that are left, and then how far the rectangle goes.
abbrev pub decreases-below : goal.decreases-below
decreases-below g l = 200000 * length l.frames.now + extent_of l.area
