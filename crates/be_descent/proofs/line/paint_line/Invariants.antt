use Rattle.std.proofs.Common.{pos, ◌-ℤ◌, ◌≤ℤ◌, ◌&&◌}
use Rattle.be_geom.specs.Points.{between}
use Rattle.be_descent.specs.Drawing.{may_draw}
use Rattle.be_descent.specs.Inks.{shape_has}
use Rattle.be_span.specs.Painting.{IsPainted}
use Rattle.be_descent.proofs.RegionLemmas.{rows_left}
use Rattle.be_descent.proofs.line.paint_line.Given as goal

abbrev pub invariant-parts : goal.invariant-parts
invariant-parts g l = record {
  from : l.rows.top ≤ℤ l.y;
  done : IsPainted (g.P.Paint.rule l.fn.paint)
      (λ x y. between l.rows.top y (l.y -ℤ pos 1)
      && (shape_has l.line l.fn.way x y
      && (may_draw l.fn.reach x y && g.P.Paint.at l.fn.paint x y))) l.fn.spans l.spans;
}

abbrev pub decreases-parts : goal.decreases-parts
decreases-parts g l = rows_left l.y l.bottom
