-- The way is the one that was told.
use Rattle.std.proofs.lemmas.Int.{to_z-of_z}
use Rattle.be_span.proofs.buffer.SpanBuf.carry.Goals as goal

pub returns-clause-cells : goal.returns-clause-cells
returns-clause-cells c =
    let dx = c.ranges.dx in
    let dy = c.ranges.dy in
    simp to_z-of_z at c.lay.ensures.cells
