-- The marks of all cells that are kept.
use Rattle.std.proofs.Common.{sym, ◌∙◌}
use Rattle.be_span.proofs.BufferLemmas.{dirty_is}
use Rattle.be_span.proofs.buffer.SpanBuf.dirty_count.Goals as goal

pub returns : goal.returns
returns c = c.dirty.ensures ∙ sym (dirty_is c.self.inside.region c.self.inside.grid c.args.self.now c.self.invariant c.self.view_is)
