use Rattle.std.proofs.Common.{◌≡◌, pos, ◌+ℤ◌, length}
use Rattle.std.specs.Option.{option_map}
use Rattle.be_span.specs.Spans.{block}
use Rattle.be_span.proofs.BlockLemmas.{AreDoneTo}
use Rattle.be_span.proofs.write.write_rows.Given as goal

abbrev pub invariant-loop-row : goal.invariant-loop-row
invariant-loop-row g l = record {
  len : length l.cells ≡ length l.fn.cells;
  done : AreDoneTo (λ x y. option_map (λ d. g.W.Write.cell l.fn.write x y)) (block l.fn.frame l.fn.cells) (block l.fn.frame l.cells) l.fn.part (l.fn.part.top +ℤ pos l.row);
}
