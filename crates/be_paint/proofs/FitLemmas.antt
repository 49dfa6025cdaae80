-- Places on the screen fit in a number.
use Rattle.std.proofs.Common.{ℤ, ◌+ℤ◌, SFits, w16, w32, rules}
use Rattle.be_geom.specs.Places.{IsNear}

pub offset_fits : (w p : ℤ) → SFits w16 w → IsNear 32 p → SFits w32 (w +ℤ p)
offset_fits w p f (least, most) = search rules

pub origin_fits : (w p b : ℤ) → SFits w16 w → IsNear 32 p → IsNear 17 b → SFits w32 (w +ℤ p +ℤ b)
origin_fits w p b f (least, most) (low, high) = search rules
