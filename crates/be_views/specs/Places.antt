-- Places as the calls give them.
use Rattle.std.specs.Prelude.{ℤ}
use Rattle.be_geom.specs.declared.point.Point.{Point}

-- a point as a pair
abbrev pub pair_of : Point → ℤ × ℤ
pair_of p = (p.x, p.y)
