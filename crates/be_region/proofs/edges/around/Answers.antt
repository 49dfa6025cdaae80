use Rattle.std.proofs.Common.{arith}
use Rattle.std.proofs.lemmas.Int.{ints, clamps}
use Rattle.be_geom.proofs.RectLemmas.{same_rects}
use Rattle.be_region.proofs.edges.around.Goals as goal

pub returns : goal.returns
returns c = same_rects _ _ _ _ _ _ _ _ (omega (arith, ints, clamps)) (omega (arith, ints, clamps)) (omega (arith, ints, clamps)) (omega (arith, ints, clamps))
