use Rattle.std.proofs.Common.{◌+◌, arith}
use Rattle.be_written.proofs.ScreenRows.{block_colored, joined}
use Rattle.be_written.proofs.plain.blocks_end.Goals as goal

pub loop-end-preserved : goal.loop-end-preserved
loop-end-preserved c =
    let cells = c.args.cells.now in
    let rgb = c.args.rgb in
    let old = c.loop-end.invariant in
    let begun = old.begun in
    let within = old.within in
    let room = c.loop-end-test.true in
    record {
      begun = omega arith;
      within = omega arith;
      colored =
          joined cells c.args.place c.loop-end.end (c.loop-end.end + 16) rgb old.colored
          (block_colored cells c.loop-end.end (c.loop-end.end + 16) rgb (omega arith) (omega arith)
          (c.is_plain.ensures c.if-is_plain.true));
    }
