-- A view's frame doesn't tell by which sizes its parent went.
use Rattle.std.proofs.Common.{◌≡◌, ℤ, pos, ◌+ℤ◌, ◌-ℤ◌, arith}
use Rattle.std.proofs.lemmas.Int.{ints}
use Rattle.be_geom.proofs.RectLemmas.{same_rects}
use Rattle.be_follow.specs.declared.mode.Across.{Across}
use Rattle.be_follow.specs.declared.mode.Across.TheVariants as across
use Rattle.be_follow.specs.declared.mode.Down.{Down}
use Rattle.be_follow.specs.declared.mode.Down.TheVariants as down
use Rattle.be_follow.specs.Shifts.{half, left_shift, right_shift, top_shift, bottom_shift}
use Rattle.be_follow.specs.Frames.{AnyWayIsTheSame}

stays : (edge : ℤ) → edge +ℤ pos 0 +ℤ pos 0 ≡ edge +ℤ pos 0
stays edge = omega (arith, ints)

goes_on : (edge a b c : ℤ) → edge +ℤ (b -ℤ a) +ℤ (c -ℤ b) ≡ edge +ℤ (c -ℤ a)
goes_on edge a b c = omega (arith, ints)

left_goes_on : (mode : Across) (edge a b c : ℤ) → edge +ℤ left_shift mode a b +ℤ left_shift mode b c ≡ edge +ℤ left_shift mode a c
left_goes_on across.Left edge a b c = stays edge
left_goes_on across.Right edge a b c = goes_on edge a b c
left_goes_on across.LeftRight edge a b c = stays edge
left_goes_on across.Center edge a b c = goes_on edge (half a) (half b) (half c)

right_goes_on : (mode : Across) (edge a b c : ℤ) → edge +ℤ right_shift mode a b +ℤ right_shift mode b c ≡ edge +ℤ right_shift mode a c
right_goes_on across.Left edge a b c = stays edge
right_goes_on across.Right edge a b c = goes_on edge a b c
right_goes_on across.LeftRight edge a b c = goes_on edge a b c
right_goes_on across.Center edge a b c = goes_on edge (half a) (half b) (half c)

top_goes_on : (mode : Down) (edge a b c : ℤ) → edge +ℤ top_shift mode a b +ℤ top_shift mode b c ≡ edge +ℤ top_shift mode a c
top_goes_on down.Top edge a b c = stays edge
top_goes_on down.Bottom edge a b c = goes_on edge a b c
top_goes_on down.TopBottom edge a b c = stays edge
top_goes_on down.Center edge a b c = goes_on edge (half a) (half b) (half c)

bottom_goes_on : (mode : Down) (edge a b c : ℤ) → edge +ℤ bottom_shift mode a b +ℤ bottom_shift mode b c ≡ edge +ℤ bottom_shift mode a c
bottom_goes_on down.Top edge a b c = stays edge
bottom_goes_on down.Bottom edge a b c = goes_on edge a b c
bottom_goes_on down.TopBottom edge a b c = goes_on edge a b c
bottom_goes_on down.Center edge a b c = goes_on edge (half a) (half b) (half c)

pub any_way : AnyWayIsTheSame
any_way frame mode a_w a_h b_w b_h c_w c_h =
    same_rects _ _ _ _ _ _ _ _ (left_goes_on mode.across frame.left a_w b_w c_w) (top_goes_on mode.down frame.top a_h b_h c_h) (right_goes_on mode.across frame.right a_w b_w c_w) (bottom_goes_on mode.down frame.bottom a_h b_h c_h)
