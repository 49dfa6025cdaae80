use Rattle.std.proofs.Common.{arith}
use Rattle.std.proofs.lemmas.Int.{to_z-of_z}
use Rattle.be_update.proofs.RowLemmas.{IsRun, IsRunAt, moves_on, row_more, row_passed}
use Rattle.be_update.proofs.dirty.add_row.Goals as goal

pub loop-at-preserved-in_ok-push : goal.loop-at-preserved-in_ok-push
loop-at-preserved-in_ok-push c =
    let l = c.ranges.left in
    let y = c.ranges.y in
    let run : IsRun c.args.cells.now c.loop-at.at c.run_end-start.result c.run_end-end.result = record {
      forward = c.run_end-start.ensures.forward;
      ends = c.run_end-end.ensures.forward;
      clean = c.run_end-start.ensures.same;
      dirty = c.run_end-end.ensures.same;
    } in
    let place : IsRunAt c.row_rect.result c.args.left c.run_end-start.result c.run_end-end.result = record { first = simp to_z-of_z at c.row_rect.ensures.left; last = simp to_z-of_z at c.row_rect.ensures.right } in
    let more = simp to_z-of_z at c.loop-at.invariant.more in
    simp to_z-of_z (record {
      within = c.run_end-end.ensures.within;
      more = row_more c.args.cells.now c.loop-at.at c.run_end-start.result c.run_end-end.result c.row_rect.result c.args.left c.args.y c.args.rects.now.items c.loop-at.rects.items _ run place (simp to_z-of_z at c.row_rect.ensures.top) (simp to_z-of_z at c.row_rect.ensures.bottom) more c.in_ok-push.ensures.items;
    })

pub loop-at-smaller : goal.loop-at-smaller
loop-at-smaller c =
    let on = moves_on c.args.cells.now c.loop-at.at c.run_end-start.result c.run_end-end.result c.loop-at-test.true c.run_end-start.ensures.forward c.run_end-end.ensures.forward c.run_end-start.ensures.other c.run_end-end.ensures.other in
    omega arith

pub loop-at-preserved : goal.loop-at-preserved
loop-at-preserved c =
    let l = c.ranges.left in
    let y = c.ranges.y in
    let behind = c.if-start-end.false in
    let on = c.run_end-start.ensures.forward in
    let to = c.run_end-end.ensures.forward in
    let run : IsRun c.args.cells.now c.loop-at.at c.run_end-end.result c.run_end-end.result = record {
      forward = omega arith;
      ends = omega arith;
      clean = λ k a b. c.run_end-start.ensures.same k a (omega arith);
      dirty = λ k a b. absurd (omega arith);
    } in
    record {
      within = c.run_end-end.ensures.within;
      more = row_passed c.args.cells.now c.loop-at.at c.run_end-end.result _ _ c.args.rects.now.items c.loop-at.rects.items run c.loop-at.invariant.more;
    }
