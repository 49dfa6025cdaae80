use Rattle.std.proofs.Common.{◌≡◌, ℤ, cond, take}
use Rattle.std.specs.Option.{option_map}
use Rattle.be_region.specs.Regions.{region_has}
use Rattle.be_span.specs.Spans.{cell_in}
use Rattle.be_desk.specs.Renewals.{exposed_by}
use Rattle.be_desk.proofs.exposing.expose.Given as goal

abbrev pub invariant-loop-place : goal.invariant-loop-place
invariant-loop-place l = record {
  region : l.spans.rects ≡ l.fn.spans.rects;
  cells : (x y : ℤ) → cell_in l.spans x y ≡ cond (region_has (take l.place l.fn.spans.rects) x y) (option_map (exposed_by l.fn.renewal x y) (cell_in l.fn.spans x y)) (cell_in l.fn.spans x y);
}
