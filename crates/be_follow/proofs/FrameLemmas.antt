-- Two frames are the same edge by edge, and one leaves the range edge by edge.
use Rattle.std.proofs.Common.{◌≡◌, Bool, false, ◌&&◌, ℤ, ◌+ℤ◌, arith}
use Rattle.be_geom.specs.declared.rect.Rect.{Rect}
use Rattle.be_geom.specs.Points.{in_range}
use Rattle.be_geom.specs.Rects.{rect_fits}
use Rattle.be_follow.specs.Frames.{shifted_frame}

third_fails : (p q r s : Bool) → r ≡ false → (p && q && r && s) ≡ false
third_fails p q r s e = grind arith

fourth_fails : (p q r s : Bool) → s ≡ false → (p && q && r && s) ≡ false
fourth_fails p q r s e = grind arith

pub right_leaves : (frame : Rect) (left top right bottom : ℤ) → in_range (frame.right +ℤ right) ≡ false → rect_fits (shifted_frame frame left top right bottom) ≡ false
right_leaves frame left top right bottom e =
    third_fails (in_range (frame.left +ℤ left)) (in_range (frame.top +ℤ top)) (in_range (frame.right +ℤ right)) (in_range (frame.bottom +ℤ bottom)) e

pub bottom_leaves : (frame : Rect) (left top right bottom : ℤ) → in_range (frame.bottom +ℤ bottom) ≡ false → rect_fits (shifted_frame frame left top right bottom) ≡ false
bottom_leaves frame left top right bottom e =
    fourth_fails (in_range (frame.left +ℤ left)) (in_range (frame.top +ℤ top)) (in_range (frame.right +ℤ right)) (in_range (frame.bottom +ℤ bottom)) e
