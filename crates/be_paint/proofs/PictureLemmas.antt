-- A picture has no pixel beside it, above it or below it.
use Rattle.std.specs.Prelude.{nat_lt, slice_get, if◌then◌else◌}
use Rattle.std.proofs.Common.{◌≡◌, ◌+◌, ◌*◌, ℤ, pos, negsuc, ◌≤ℤ◌, false, None, refl, ap, arith}
use Rattle.std.proofs.lemmas.Bool.{le-ltb, and_left, and_right}
use Rattle.std.proofs.lemmas.Int.{ints}
use Rattle.be_bitmap.specs.Pictures.{Picture, bitmap_pixel}

pub below_of : (b : Picture) (z y : ℤ) → pos b.height ≤ℤ y → bitmap_pixel b z y ≡ None
unfolding bitmap_pixel
below_of b z (negsuc n) h = absurd (omega (arith, ints))
below_of b (negsuc n) (pos m) h = refl
below_of b (pos n) (pos m) h =
    let e : nat_lt m b.height ≡ false = le-ltb m b.height (omega (arith, ints)) in
    ap (λ t. if t then slice_get b.colors (m * b.width + n) else None) (and_right (nat_lt n b.width) (nat_lt m b.height) e)

-- ---- columns

pub right_of : (b : Picture) (z y : ℤ) → pos b.width ≤ℤ z → bitmap_pixel b z y ≡ None
unfolding bitmap_pixel
right_of b (negsuc n) y h = absurd (omega (arith, ints))
right_of b (pos n) (negsuc m) h = refl
right_of b (pos n) (pos m) h =
    let e : nat_lt n b.width ≡ false = le-ltb n b.width (omega (arith, ints)) in
    ap (λ t. if t then slice_get b.colors (m * b.width + n) else None) (and_left (nat_lt n b.width) (nat_lt m b.height) e)
