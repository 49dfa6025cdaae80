-- There is one at the place.
use Rattle.std.proofs.Common.{length, sym, ap, ◌∙◌, slice_get, arith}
use Rattle.be_span.proofs.BufferLemmas.{rects_are, some_unless}
use Rattle.be_span.proofs.buffer.SpanBuf.span.Goals as goal

pub unwrap-requires : goal.unwrap-requires
unwrap-requires c =
    let same = ap length (rects_are c.self.inside.region c.self.inside.grid c.args.self.now c.self.view_is) in
    let there = c.requires in
    some_unless c.rect_at.result (λ none. let past = c.rect_at.ensures.none.0 none in omega arith)

pub returns-clause-span : goal.returns-clause-span
returns-clause-span c =
    record { place = c.args.place; there = ap (λ l. slice_get l c.args.place) (rects_are c.self.inside.region c.self.inside.grid c.args.self.now c.self.view_is) ∙ sym c.rect_at.ensures.at_place ∙ c.unwrap.ensures }

pub returns-clause-rect : goal.returns-clause-rect
returns-clause-rect c =
    ap (λ l. slice_get l c.args.place) (rects_are c.self.inside.region c.self.inside.grid c.args.self.now c.self.view_is) ∙ sym c.rect_at.ensures.at_place ∙ c.unwrap.ensures
