use Rattle.std.proofs.lemmas.Int.{to_z-of_z}
use Rattle.be_region.proofs.BandLemmas.{pushed, all_pushed, no_span}
use Rattle.be_region.proofs.bands.push_rects.Goals as goal

pub loop-span-preserved : goal.loop-span-preserved
loop-span-preserved c =
    let f = c.ranges.top in
    let g = c.ranges.bottom in
    let before = simp to_z-of_z at c.loop-span.invariant in
    simp to_z-of_z (pushed c.args.rects.now.items c.loop-span.rects.items c.push.new.self.items c.args.spans.now c.loop-span.span-index c.args.top c.args.bottom no_span c.rect_of.result c.loop-span-test.true before c.in_ok-push.ensures.items (simp to_z-of_z at c.rect_of.ensures))

pub returns : goal.returns
returns c =
    let f = c.ranges.top in
    let g = c.ranges.bottom in
    let before = simp to_z-of_z at c.loop-span.invariant in
    all_pushed c.args.rects.now.items c.loop-span.rects.items c.args.spans.now c.loop-span.span-index c.args.top c.args.bottom c.loop-span-test.false before
