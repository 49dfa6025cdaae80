use Rattle.be_descent.proofs.CutLemmas.{inside_of}
use Rattle.be_descent.proofs.PaintLemmas.{next_to}
use Rattle.be_descent.proofs.within.WithinLay.lay.Goals as goal

pub lay-requires-clause-inside : goal.lay-requires-clause-inside
lay-requires-clause-inside g c =
    let next = c.in-Some.ensures.some in
    inside_of c.in-Some.found.part c.args.area c.args.span.rect next.some next.inside
    c.requires.inside

pub loop-found-preserved : goal.loop-found-preserved
loop-found-preserved g c =
    let self = c.args.self.now in
    let next = c.in-Some.ensures.some in
    record {
      within = next.there;
      done = next_to (g.L.Lay.rule self.next.now) self.region.now c.loop-found.place self.way
          c.args.area c.in-Some.found (g.L.Lay.at self.next.now) c.args.spans.now c.loop-found.spans
          c.lay.new.spans next c.loop-found.invariant.done c.lay.ensures;
    }
