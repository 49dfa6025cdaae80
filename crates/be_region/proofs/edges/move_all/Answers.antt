use Rattle.std.proofs.Common.{◌≡◌, get_or, arith}
use Rattle.std.proofs.lemmas.Int.{to_z-of_z}
use Rattle.std.proofs.lemmas.Result.{IfOk-at_ok}
use Rattle.be_geom.specs.declared.rect.Rect.{Rect}
use Rattle.be_geom.specs.declared.point.OutOfRange.{OutOfRange}
use Rattle.be_geom.specs.Rects.{moved_rect}
use Rattle.be_region.proofs.MoveLemmas.{fits_is_ok, move_step, not_moved, all_moved}
use Rattle.be_region.proofs.CountLemmas.{no_rect}
use Rattle.be_region.proofs.edges.move_all.Goals as goal

pub unwrap-requires : goal.unwrap-requires
unwrap-requires c =
    let f = c.ranges.dx in
    let g = c.ranges.dy in
    let so_far = simp to_z-of_z at c.loop-rect.invariant in
    let out = simp to_z-of_z at c.offset.ensures.out in
    let same = not_moved c.args.rects.now c.loop-rect.rects c.args.dx c.args.dy c.loop-rect.rect-index no_rect c.loop-rect-test.true so_far in
    fits_is_ok c.offset.result _ (rw same at out) (c.requires c.loop-rect.rect-index no_rect c.loop-rect-test.true)

pub loop-rect-preserved : goal.loop-rect-preserved
loop-rect-preserved c =
    let f = c.ranges.dx in
    let g = c.ranges.dy in
    let so_far = simp to_z-of_z at c.loop-rect.invariant in
    let moved = IfOk-at_ok {E = OutOfRange} (λ (r : Rect). r ≡ moved_rect (get_or c.loop-rect.rects c.loop-rect.rect-index no_rect) c.args.dx c.args.dy) c.unwrap.ensures (simp to_z-of_z at c.offset.ensures.moved) in
    simp to_z-of_z (move_step c.args.rects.now c.loop-rect.rects c.args.dx c.args.dy c.loop-rect.rect-index c.unwrap.result no_rect c.loop-rect-test.true so_far moved)

pub returns : goal.returns
returns c =
    let f = c.ranges.dx in
    let g = c.ranges.dy in
    let so_far = simp to_z-of_z at c.loop-rect.invariant in
    all_moved c.args.rects.now c.loop-rect.rects c.args.dx c.args.dy c.loop-rect.rect-index (omega arith) so_far
