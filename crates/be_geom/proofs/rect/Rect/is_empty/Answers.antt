use Rattle.std.proofs.Common.{arith}
use Rattle.std.proofs.lemmas.Int.{ints}
use Rattle.be_geom.proofs.RectLemmas.{no_pixel_test}
use Rattle.be_geom.proofs.rect.Rect.is_empty.Goals as goal

pub returns-then-self : goal.returns-then-self
returns-then-self c = no_pixel_test _ c.args.self (grind (arith, ints))

pub returns-else-self : goal.returns-else-self
returns-else-self c = no_pixel_test _ c.args.self (grind (arith, ints))
