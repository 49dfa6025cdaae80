-- By pixels.
use Rattle.std.proofs.Common.{sym, subst, ◌∙◌}
use Rattle.be_region.specs.Bands.{AreBands}
use Rattle.be_span.proofs.BufferLemmas.{dirty_is, rects_are, whole_is}
use Rattle.be_span.proofs.MarkLemmas.{clean_count_test, clean_test}
use Rattle.be_span.proofs.buffer.SpanBuf.is_clean.Goals as goal

pub returns-clause-count : goal.returns-clause-count
returns-clause-count c =
    clean_count_test c.dirty.result c.args.self.now
    (c.dirty.ensures ∙ sym (dirty_is c.self.inside.region c.self.inside.grid c.args.self.now c.self.invariant c.self.view_is))

pub returns-clause-pixels : goal.returns-clause-pixels
returns-clause-pixels c =
    clean_test c.dirty.result c.args.self.now (subst AreBands (sym (rects_are c.self.inside.region c.self.inside.grid c.args.self.now c.self.view_is)) c.self.invariant.bands) (whole_is c.self.inside.region c.self.inside.grid c.args.self.now c.self.view_is)
    (c.dirty.ensures ∙ sym (dirty_is c.self.inside.region c.self.inside.grid c.args.self.now c.self.invariant c.self.view_is))
