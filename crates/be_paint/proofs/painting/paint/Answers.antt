use Rattle.be_descent.proofs.MarkLemmas.{marks_left}
use Rattle.be_descent.specs.Drawing.{may_draw}
use Rattle.be_span.specs.Painting.{IsPainted}
use Rattle.be_paint.specs.Laying.{descent_of, ink_of, laid}
use Rattle.be_paint.proofs.PaintLemmas.{laid_marks, laid_painted}
use Rattle.be_paint.proofs.painting.paint.Goals as goal

pub returns : goal.returns
returns c =
    let g = c.args.reach.now in
    let site = c.in-Some.site in
    let ink = ink_of c.args.ink.now in
    let old = c.args.spans.now in
    let new = c.paint_ink.new.spans in
    let state = g.states.now.top.state in
    let done : IsPainted (laid ink state g.window site.origin) (may_draw (descent_of g site)) old
    new = rw (c.top-state.ensures.state, c.descent.ensures.reach) at c.paint_ink.ensures in
    record {
      region = done.region;
      painted = λ seen stands. laid_painted g site seen ink old new stands c.in-Some.ensures.some
          done;
      marks = marks_left (laid ink state g.window site.origin) (may_draw (descent_of g site)) old
          new record {
            bands = c.whole.ensures.bands;
            cells = c.whole.ensures.cells;
          } record {
            bands = c.whole-2.ensures.bands;
            cells = c.whole-2.ensures.cells;
          } (laid_marks ink state g.window site.origin) done;
    }
