-- Numbers that fit, and the last of some rows.
use Rattle.std.proofs.Common.{◌≡◌, ℤ, pos, negsuc, ◌+ℤ◌, ◌≤ℤ◌, SFits, w16, w32, rules, arith}
use Rattle.std.proofs.lemmas.Int.{ints}
use Rattle.be_facts.proofs.Numbers.{fits_16}
use Rattle.be_geom.specs.Places.{IsNear}

pub fits_32 : (z : ℤ) → negsuc 2147483647 ≤ℤ z → z ≤ℤ pos 2147483647 → SFits w32 z
fits_32 z low high = search rules

-- where something lies, and how far from there something else does
pub sum_fits : (there by : ℤ) → IsNear 64 there → IsNear 17 by → SFits w32 (there +ℤ by)
sum_fits there by near far = fits_32 (there +ℤ by) (omega (arith, ints)) (omega (arith, ints))

-- a row is one of those of a rectangle
pub record IsRowFrom (top bottom row : ℤ) : Type 0 where
  pub bits : SFits w32 row
  pub fits : SFits w16 row
  pub forward : top ≤ℤ row
  pub within : row ≤ℤ bottom

-- the last of some rows is one of those from a row on, and another may follow
pub record IsLastFrom (row bottom last : ℤ) : Type 0 where
  pub bits : SFits w32 last
  pub next : SFits w32 (last +ℤ pos 1)
  pub forward : row ≤ℤ last
  pub within : last ≤ℤ bottom

pub row_here : (top bottom row : ℤ) → SFits w16 top → SFits w16 bottom → SFits w32 row
    → top ≤ℤ row → row ≤ℤ bottom → IsRowFrom top bottom row
row_here top bottom row t b bits low high = record {
  bits = bits;
  fits = fits_16 row (omega (arith, ints)) (omega (arith, ints));
  forward = low;
  within = high;
}

pub last_here : (row bottom end last : ℤ) → SFits w16 bottom → SFits w32 last → last ≡ end
    → SFits w16 row → row ≤ℤ end → end ≤ℤ bottom → IsLastFrom row bottom last
last_here row bottom end last b bits is fits low high = record {
  bits = bits;
  next = fits_32 (last +ℤ pos 1) (omega (arith, ints)) (omega (arith, ints));
  forward = omega (arith, ints);
  within = omega (arith, ints);
}
