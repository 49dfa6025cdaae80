use Rattle.std.proofs.Common.{◌≡◌, ℤ, IsSome, take}
use Rattle.be_span.specs.Spans.{cell_in}
use Rattle.be_desk.specs.Shifts.{newest}
use Rattle.be_desk.proofs.carrying.lay_parts.Given as goal

abbrev pub invariant-loop-part : goal.invariant-loop-part
invariant-loop-part l = record {
  region : l.spans.rects ≡ l.fn.spans.rects;
  cells : (x y : ℤ) → IsSome (cell_in l.fn.spans x y) → cell_in l.spans x y ≡ newest (take l.part-index l.parts) x y (cell_in l.fn.spans x y);
}
