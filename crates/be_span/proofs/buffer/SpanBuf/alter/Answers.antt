-- The rectangle's pixels are the span's.
use Rattle.std.proofs.Common.{sym, ap, ◌∙◌}
use Rattle.be_region.specs.Regions.{region_has}
use Rattle.be_span.proofs.BufferLemmas.{painted_seen, rects_are, seen_painted}
use Rattle.be_span.proofs.SpanLemmas.{rect_in_span}
use Rattle.be_span.proofs.buffer.SpanBuf.alter.Goals as goal

pub alter_rect-requires-clause-inside : goal.alter_rect-requires-clause-inside
alter_rect-requires-clause-inside g c x y has =
    c.self.invariant.inside x y (ap (λ l. region_has l x y) (sym (rects_are c.self.inside.region c.self.inside.grid c.args.self.now c.self.view_is)) ∙ rect_in_span c.args.self.now.rects c.args.span c.args.rect c.requires.span c.requires.inside x y has)

pub invariant_of-self : goal.invariant_of-self
invariant_of-self g c =
    seen_painted c.self.inside.region c.self.inside.grid c.alter_rect.new.self _ _ c.args.rect c.self.invariant c.alter_rect.ensures.painted c.alter_rect.ensures.whole
    (λ x y has. ap (λ l. region_has l x y) (sym (rects_are c.self.inside.region c.self.inside.grid c.args.self.now c.self.view_is)) ∙ rect_in_span c.args.self.now.rects c.args.span c.args.rect c.requires.span c.requires.inside x y has)

pub returns : goal.returns
returns g c =
    painted_seen c.self.inside.region c.self.inside.grid c.alter_rect.new.self c.args.self.now _ _ c.self.invariant (invariant_of-self g c) c.self.view_is c.alter_rect.ensures.painted
