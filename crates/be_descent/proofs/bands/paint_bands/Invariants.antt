use Rattle.std.proofs.Common.{pos, ◌-ℤ◌, ◌≤ℤ◌, ◌&&◌}
use Rattle.be_geom.specs.Points.{between}
use Rattle.be_descent.specs.Drawing.{may_draw}
use Rattle.be_descent.specs.Inks.{shape_has}
use Rattle.be_span.specs.Painting.{IsPainted}
use Rattle.be_descent.proofs.RegionLemmas.{rows_left}
use Rattle.be_descent.proofs.bands.paint_bands.Given as goal

abbrev pub invariant-bands : goal.invariant-bands
invariant-bands g l = record {
  from : l.rows.top ≤ℤ l.y;
  done : IsPainted (g.L.Lay.rule l.fn.ink)
      (λ x y. between l.rows.top y (l.y -ℤ pos 1)
      && (shape_has l.fn.raster l.fn.way x y
      && (may_draw l.fn.reach x y && g.L.Lay.at l.fn.ink x y))) l.fn.spans l.spans;
}

abbrev pub decreases-bands : goal.decreases-bands
decreases-bands g l = rows_left l.y l.bottom
