-- Part by part.
use Rattle.std.proofs.Common.{length, refl, ap, ◌∙◌, arith}
use Rattle.std.proofs.lemmas.List.{take_all}
use Rattle.std.proofs.lemmas.Option.{slice_get_read}
use Rattle.be_span.specs.Spans.{cell_in}
use Rattle.be_desk.specs.Shifts.{newest}
use Rattle.be_desk.proofs.ShiftLemmas.{part_more}
use Rattle.be_desk.proofs.carrying.lay_parts.Goals as goal

pub loop-part-preserved : goal.loop-part-preserved
loop-part-preserved c = record {
  region = c.lay.ensures.region ∙ c.loop-part.invariant.region;
  cells = λ x y some. part_more c.args.parts.now c.loop-part.part-index c.part-item.result x y _ (cell_in c.loop-part.spans x y) (cell_in c.lay.new.self x y) (slice_get_read c.args.parts.now (length c.args.parts.now) c.loop-part.part-index c.part-item.result refl (omega arith) c.part-item.is) some (c.loop-part.invariant.cells x y some) (c.lay.ensures.cells x y);
}

pub returns-clause-region : goal.returns-clause-region
returns-clause-region c = c.loop-part.invariant.region

pub returns-clause-cells : goal.returns-clause-cells
returns-clause-cells c x y some =
    c.loop-part.invariant.cells x y some ∙ ap (λ l. newest l x y (cell_in c.args.spans.now x y)) (take_all c.loop-part.part-index c.args.parts.now (omega arith))
