-- The region is kept.
use Rattle.std.proofs.Common.{sym}
use Rattle.be_span.proofs.BufferLemmas.{rects_are, whole_is}
use Rattle.be_span.proofs.buffer.SpanBuf.region.Goals as goal

pub returns-clause-region : goal.returns-clause-region
returns-clause-region c = sym (rects_are c.self.inside.region c.self.inside.grid c.args.self.now c.self.view_is)

pub returns-clause-whole : goal.returns-clause-whole
returns-clause-whole c = whole_is c.self.inside.region c.self.inside.grid c.args.self.now c.self.view_is
