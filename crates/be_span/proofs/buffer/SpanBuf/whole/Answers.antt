-- What a buffer always is.
use Rattle.std.proofs.Common.{sym, subst}
use Rattle.be_region.specs.Bands.{AreBands}
use Rattle.be_span.proofs.BufferLemmas.{rects_are, whole_is}
use Rattle.be_span.proofs.buffer.SpanBuf.whole.Goals as goal

pub returns-clause-bands : goal.returns-clause-bands
returns-clause-bands c = subst AreBands (sym (rects_are c.self.inside.region c.self.inside.grid c.args.self.now c.self.view_is)) c.self.invariant.bands

pub returns-clause-cells : goal.returns-clause-cells
returns-clause-cells c = whole_is c.self.inside.region c.self.inside.grid c.args.self.now c.self.view_is
