use Rattle.std.proofs.Common.{arith}
use Rattle.std.proofs.lemmas.Int.{ints, clamps}
use Rattle.be_geom.proofs.RectLemmas.{intersection_has}
use Rattle.be_geom.proofs.rect.Rect.inner_edges.Goals as goal

pub returns : goal.returns
returns c = intersection_has _ c.args.self c.args.other (omega (arith, ints, clamps)) (omega (arith, ints, clamps)) (omega (arith, ints, clamps)) (omega (arith, ints, clamps))
