use Rattle.std.proofs.Common.{◌≡◌, All, take}
use Rattle.be_geom.specs.declared.rect.Rect.{Rect}
use Rattle.be_region.proofs.rows.band_len.Given as goal

abbrev pub invariant-loop-place : goal.invariant-loop-place
invariant-loop-place l = All (λ (r : Rect). r.top ≡ l.top) (take l.place l.rects)
