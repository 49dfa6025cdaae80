use Rattle.std.proofs.Common.{pos, ◌+ℤ◌, ◌-ℤ◌, ◌≤ℤ◌, ◌&&◌}
use Rattle.be_descent.specs.Drawing.{may_draw}
use Rattle.be_span.specs.Painting.{IsPainted}
use Rattle.be_descent.proofs.RegionLemmas.{rows_left}
use Rattle.be_geom.specs.Points.{between}
use Rattle.be_span.specs.Slices.{painted}
use Rattle.be_paint.specs.Laying.{text_at}
use Rattle.be_paint.proofs.texts.paint_text.Given as goal

abbrev pub invariant-columns : goal.invariant-columns
invariant-columns l = record {
  from : l.first ≤ℤ l.x;
  done : IsPainted (λ u v. painted l.fn.text.brush l.fn.text.color)
      (λ u v. between l.first (u -ℤ l.fn.text.way.right) (l.x -ℤ pos 1)
      && (text_at l.fn.text u v && may_draw l.fn.reach u v)) l.fn.spans l.spans;
}

abbrev pub decreases-columns : goal.decreases-columns
decreases-columns l = rows_left l.x (l.last +ℤ pos 63)
