use Rattle.std.proofs.Common.{◌≡◌, ℤ, take}
use Rattle.std.specs.Prelude.{◌&&◌}
use Rattle.be_region.specs.Regions.{region_has}
use Rattle.be_span.specs.Spans.{cell_in, is_dirty}
use Rattle.be_update.proofs.dirty.dirty_rects.Given as goal

abbrev pub invariant-loop-place : goal.invariant-loop-place
invariant-loop-place l = (x y : ℤ) → region_has l.rects.items x y ≡ (region_has (take l.place l.spans.rects) x y && is_dirty (cell_in l.spans x y))
