use Rattle.be_region.proofs.CopyLemmas.{all_copied, copied_apart_at, copied_have_at}
use Rattle.be_region.proofs.line.copy_line.Goals as goal

pub returns-clause-apart : goal.returns-clause-apart
returns-clause-apart c =
    copied_apart_at c.loop-rect.spans.items c.args.line.now (all_copied c.loop-rect.spans.items c.args.line.now c.loop-rect.rect-index c.loop-rect-test.false c.loop-rect.invariant) c.requires

pub returns-clause-columns : goal.returns-clause-columns
returns-clause-columns c =
    copied_have_at c.loop-rect.spans.items c.args.line.now (all_copied c.loop-rect.spans.items c.args.line.now c.loop-rect.rect-index c.loop-rect-test.false c.loop-rect.invariant)
