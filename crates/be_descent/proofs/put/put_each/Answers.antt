use Rattle.std.proofs.Common.{slice_get, arith}
use Rattle.be_span.proofs.SliceLemmas.{done_all}
use Rattle.be_descent.specs.Pieces.{put_cell}
use Rattle.be_descent.proofs.put.put_each.Goals as goal

pub returns : goal.returns
returns c k =
    done_all (λ k. put_cell c.args.color (slice_get c.args.row.now k)) c.args.cells.now
    c.loop-cell.cells c.loop-cell.cell-index k (omega arith) c.loop-cell.invariant.cells
