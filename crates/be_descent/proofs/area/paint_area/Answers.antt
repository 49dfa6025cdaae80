use Rattle.std.proofs.Common.{List, ◌∙◌, arith, subst}
use Rattle.be_geom.specs.declared.rect.Rect.{Rect}
use Rattle.be_region.specs.Bands.{AreBands}
use Rattle.be_descent.specs.Places.{IsNext}
use Rattle.be_descent.proofs.PaintLemmas.{all_to, next_to}
use Rattle.be_descent.proofs.SpanLemmas.{here, on_region, part_inside}
use Rattle.be_descent.proofs.area.paint_area.Goals as goal

pub span-span-requires : goal.span-span-requires
span-span-requires g c =
    let next = subst (λ (rs : List Rect). IsNext rs c.loop-found.place here c.args.area
    c.in-Some.found) c.region.ensures.region c.in-Some.ensures.some in
    let ahead = next.ahead in
    let there = next.there in
    omega arith

pub lay-requires-clause-inside : goal.lay-requires-clause-inside
lay-requires-clause-inside g c =
    let rs = c.loop-found.spans.rects in
    let next = subst (λ (rs : List Rect). IsNext rs c.loop-found.place here c.args.area
    c.in-Some.found) c.region.ensures.region c.in-Some.ensures.some in
    let bands = subst AreBands c.region.ensures.region c.in-Some.ensures.bands in
    part_inside rs c.loop-found.place c.args.area c.in-Some.found c.span-span.result bands next
    c.span-span.ensures.span c.span-span.ensures.rect

pub loop-found-preserved : goal.loop-found-preserved
loop-found-preserved g c =
    let rule = g.L.Lay.rule c.args.stage.now in
    let same = c.region.ensures.region ∙ c.loop-found.invariant.done.region in
    let next = subst (λ (rs : List Rect). IsNext rs c.loop-found.place here c.args.area
    c.in-Some.found) same c.in-Some.ensures.some in
    record {
      within = next.there;
      done = next_to rule c.args.spans.now.rects c.loop-found.place here c.args.area c.in-Some.found
          (g.L.Lay.at c.args.stage.now) c.args.spans.now c.loop-found.spans c.lay.new.spans next
          c.loop-found.invariant.done c.lay.ensures;
    }

pub returns : goal.returns
returns g c =
    let rule = g.L.Lay.rule c.args.stage.now in
    let at = g.L.Lay.at c.args.stage.now in
    let same = c.region.ensures.region ∙ c.loop-found.invariant.done.region in
    let none = rw same at c.in_default.ensures.none in
    on_region rule c.args.area at c.args.spans.now c.loop-found.spans
    (all_to rule c.args.spans.now.rects c.loop-found.place here c.args.area at c.args.spans.now
    c.loop-found.spans none c.loop-found.invariant.done)
