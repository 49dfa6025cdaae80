-- A rectangle for whose pixels cells are kept.
use Rattle.std.proofs.Common.{◌≡◌, ℤ, pos, arith, true, List, Option, Some, None, IsNone, IfSome, ◌↔◌, refl, sym, ◌∙◌}
use Rattle.std.specs.Option.{unwrap_or}
use Rattle.std.proofs.lemmas.Int.{ints}
use Rattle.std.proofs.lemmas.Bool.{true≢false}
use Rattle.be_geom.specs.declared.rect.Rect.{Rect}
use Rattle.be_geom.specs.Rects.{rect_has}
use Rattle.be_region.specs.Frames.{IsFrame}
use Rattle.be_region.specs.Regions.{HasNone, IsNotEmpty, region_has}
use Rattle.be_span.proofs.GridLemmas.{in_from}

-- the smallest round a region, or another where the region has no pixel
pub frame_holds : (rs : List Rect) (o : Option Rect) (other : Rect) → IsNone o ↔ HasNone rs → IfSome o (λ f. IsFrame f rs) → (x y : ℤ) → region_has rs x y ≡ true → rect_has (unwrap_or o other) x y ≡ true
frame_holds rs (Some f) other none some x y has = some.holds x y has
frame_holds rs None other none some x y has = absurd (true≢false (sym has ∙ none.0 refl x y))

pub frame_some : (rs : List Rect) (o : Option Rect) (other : Rect) → IfSome o (λ f. IsFrame f rs) → IsNotEmpty other → IsNotEmpty (unwrap_or o other)
frame_some rs (Some f) other some full =
    let left = in_from f f.left some.left.0 (some.holds f.left some.left.0 some.left.1) in
    let top = in_from f some.top.0 f.top (some.holds some.top.0 f.top some.top.1) in
    record { across = left.right; down = top.bottom }
frame_some rs None other some full = full

-- a pixel is one
pub pixel_some : IsNotEmpty (record { left = pos 0; top = pos 0; right = pos 0; bottom = pos 0 })
pixel_some = record { across = omega (arith, ints); down = omega (arith, ints) }
