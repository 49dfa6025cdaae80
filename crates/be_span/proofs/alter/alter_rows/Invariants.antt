use Rattle.std.proofs.Common.{◌≡◌, pos, ◌+ℤ◌, length, count_by}
use Rattle.std.specs.Option.{option_map}
use Rattle.be_span.specs.Painting.{changed}
use Rattle.be_span.specs.Spans.{block}
use Rattle.be_span.proofs.BlockLemmas.{AreDoneTo}
use Rattle.be_span.proofs.alter.alter_rows.Given as goal

abbrev pub invariant-loop-row : goal.invariant-loop-row
invariant-loop-row g l = record {
  len : length l.cells ≡ length l.fn.cells;
  counted : l.left ≡ count_by (λ c. c.dirty) l.cells;
  done : AreDoneTo (λ x y. option_map (changed (g.A.Alter.rule l.fn.alter) (g.A.Alter.at l.fn.alter) x y)) (block l.fn.frame l.fn.cells) (block l.fn.frame l.cells) l.fn.rect (l.fn.rect.top +ℤ pos l.row);
}
