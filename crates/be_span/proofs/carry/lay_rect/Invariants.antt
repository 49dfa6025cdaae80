use Rattle.std.proofs.Common.{◌≡◌, pos, ◌+ℤ◌, ◌-ℤ◌}
use Rattle.be_span.specs.Spans.{cell_in, laid}
use Rattle.be_span.proofs.BlockLemmas.{AreDoneTo}
use Rattle.be_span.proofs.carry.lay_rect.Given as goal

abbrev pub invariant-loop-row : goal.invariant-loop-row
invariant-loop-row l = record {
  region : l.to.rects ≡ l.fn.to.rects;
  done : AreDoneTo (λ x y. laid (cell_in l.fn.from (x -ℤ l.fn.way.x) (y -ℤ l.fn.way.y))) l.fn.to l.to l.fn.rect (l.fn.rect.top +ℤ pos l.row);
}
