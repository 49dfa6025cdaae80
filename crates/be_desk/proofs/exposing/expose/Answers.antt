-- Rectangle by rectangle.
use Rattle.std.proofs.Common.{ap, sym, ◌∙◌, arith, length}
use Rattle.std.specs.Option.{option_map}
use Rattle.be_region.specs.Regions.{region_has}
use Rattle.be_span.proofs.BlockLemmas.{all_more, map_twice}
use Rattle.be_span.proofs.LaidLemmas.{rect_inside}
use Rattle.be_desk.specs.Renewals.{exposed_by}
use Rattle.be_desk.proofs.RenewLemmas.{all_exposed, renewal_twice}
use Rattle.be_desk.proofs.exposing.expose.Goals as goal

pub expose_rect-requires-clause-inside : goal.expose_rect-requires-clause-inside
expose_rect-requires-clause-inside c x y h =
    ap (λ l. region_has l x y) (sym c.region-in-loop-place.ensures.region)
    ∙ rect_inside c.region-in-loop-place.result.now c.loop-place.place c.unwrap-rect.result x y (sym c.rect_at.ensures.at_place ∙ c.unwrap-rect.ensures) h

pub loop-place-preserved : goal.loop-place-preserved
loop-place-preserved c =
    let there = sym c.rect_at.ensures.at_place ∙ c.unwrap-rect.ensures in
    let same = c.region-in-loop-place.ensures.region ∙ c.loop-place.invariant.region in
    record {
      region = c.expose_rect.ensures.region ∙ c.loop-place.invariant.region;
      cells = all_more (λ x y. option_map (exposed_by c.args.renewal.now x y)) c.args.spans.now c.loop-place.spans c.expose_rect.new.spans c.args.spans.now.rects c.loop-place.place c.unwrap-rect.result (λ x y. map_twice _ (renewal_twice c.args.renewal.now x y)) (rw (← same) there) c.loop-place.invariant.cells c.expose_rect.ensures.cells;
    }

pub returns-clause-cells : goal.returns-clause-cells
returns-clause-cells c =
    let count = c.count-place-end.ensures.number in
    let same = ap length c.region.ensures.region in
    all_exposed c.args.renewal.now c.args.spans.now c.loop-place.spans c.loop-place.place (omega arith) c.loop-place.invariant.cells
