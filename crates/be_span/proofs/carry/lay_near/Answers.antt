-- Rectangle by rectangle.
use Rattle.std.proofs.Common.{ap, sym, ◌∙◌, arith, length, ◌-ℤ◌}
use Rattle.be_region.specs.Regions.{region_has}
use Rattle.be_span.specs.Spans.{cell_in, laid}
use Rattle.be_span.proofs.BlockLemmas.{all_more}
use Rattle.be_span.proofs.LaidLemmas.{all_laid, laid_twice, rect_inside}
use Rattle.be_span.proofs.carry.lay_near.Goals as goal

pub lay_rect-requires-clause-inside : goal.lay_rect-requires-clause-inside
lay_rect-requires-clause-inside c x y h =
    ap (λ l. region_has l x y) (sym c.region-in-loop-place.ensures.region)
    ∙ rect_inside c.region-in-loop-place.result.now c.loop-place.place c.unwrap-rect.result x y (sym c.rect_at.ensures.at_place ∙ c.unwrap-rect.ensures) h

pub loop-place-preserved : goal.loop-place-preserved
loop-place-preserved c =
    let so_far = c.loop-place.invariant.cells in
    let more = c.lay_rect.ensures.cells in
    let there = sym c.rect_at.ensures.at_place ∙ c.unwrap-rect.ensures in
    let same = c.region-in-loop-place.ensures.region ∙ c.loop-place.invariant.region in
    record {
      region = c.lay_rect.ensures.region ∙ c.loop-place.invariant.region;
      cells = all_more (λ x y. laid (cell_in c.args.from.now (x -ℤ c.args.way.x) (y -ℤ c.args.way.y))) c.args.to.now c.loop-place.to c.lay_rect.new.to c.args.to.now.rects c.loop-place.place c.unwrap-rect.result (λ x y. laid_twice _) (rw (← same) there) so_far more;
    }

pub returns-clause-cells : goal.returns-clause-cells
returns-clause-cells c =
    let so_far = c.loop-place.invariant.cells in
    let count = c.count-place-end.ensures.number in
    let same = ap length c.region.ensures.region in
    all_laid (λ x y. cell_in c.args.from.now (x -ℤ c.args.way.x) (y -ℤ c.args.way.y)) c.args.to.now c.loop-place.to c.loop-place.place (omega arith) so_far
