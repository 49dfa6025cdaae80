-- The marks of all cells that are kept.
use Rattle.std.proofs.Common.{sym, ◌∙◌}
use Rattle.be_span.proofs.BufferLemmas.{dirty_is}
use Rattle.be_span.proofs.buffer.SpanBuf.dirty_in.Goals as goal

pub dirty_of-requires : goal.dirty_of-requires
dirty_of-requires c none =
    c.requires (dirty_is c.self.inside.region c.self.inside.grid c.args.self.now c.self.invariant c.self.view_is ∙ sym c.dirty.ensures ∙ none)
