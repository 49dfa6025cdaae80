use Rattle.std.proofs.Common.{length, sym, ap, ◌∙◌, arith}
use Rattle.be_region.specs.Regions.{region_has}
use Rattle.be_geom.specs.declared.rect.Rect.{Rect}
use Rattle.std.proofs.Common.{List}
use Rattle.std.specs.Prelude.{slice_get}
use Rattle.be_span.proofs.LaidLemmas.{rect_inside}
use Rattle.be_update.proofs.RowLemmas.{all_more, all_of}
use Rattle.be_update.proofs.dirty.dirty_rects.Goals as goal

pub add_rect-requires-clause-inside : goal.add_rect-requires-clause-inside
add_rect-requires-clause-inside c x y h =
    ap (λ rs. region_has rs x y) (sym c.region-in-loop-place.ensures.region)
    ∙ rect_inside c.region-in-loop-place.result.now c.loop-place.place c.unwrap-rect.result x y (sym c.rect_at.ensures.at_place ∙ c.unwrap-rect.ensures) h

pub loop-place-preserved : goal.loop-place-preserved
loop-place-preserved c =
    all_more c.args.spans.now c.loop-place.place c.unwrap-rect.result c.loop-place.rects.items c.add_rect.new.rects.items
    (ap (λ (rs : List Rect). slice_get rs c.loop-place.place) (sym c.region-in-loop-place.ensures.region) ∙ sym c.rect_at.ensures.at_place ∙ c.unwrap-rect.ensures)
    c.loop-place.invariant c.in_ok-add_rect.ensures

pub returns : goal.returns
returns c x y =
    let number = c.count-place-end.ensures.number in
    let same = ap (λ (rs : List Rect). length rs) c.region.ensures.region in
    let done = c.loop-place-test.false in
    c.loop-place.invariant x y ∙ all_of c.args.spans.now c.loop-place.place x y (omega arith)
