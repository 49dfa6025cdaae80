use Rattle.std.proofs.Common.{◌≡◌, count_by, take}
use Rattle.be_span.proofs.rows.dirty_among.Given as goal

abbrev pub invariant-loop-cell : goal.invariant-loop-cell
invariant-loop-cell l = l.count ≡ count_by (λ c. c.dirty) (take l.cell-index l.cells)
