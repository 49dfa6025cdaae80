-- What the test `between` tells of three numbers.
use Rattle.std.proofs.Common.{◌≡◌, ℤ, true, false, ◌⊎◌, ◌≤ℤ◌, ◌<ℤ◌, arith}
use Rattle.std.proofs.lemmas.Int.{ints}
use Rattle.be_geom.specs.Points.{between}

pub between_tells : (low z high : ℤ) → ((between low z high ≡ true) × (low ≤ℤ z) × (z ≤ℤ high)) ⊎ ((between low z high ≡ false) × ((z <ℤ low) ⊎ (high <ℤ z)))
unfolding between
between_tells low z high = grind (arith, ints)

pub is_between : (low z high : ℤ) → low ≤ℤ z → z ≤ℤ high → between low z high ≡ true
unfolding between
is_between low z high h k = grind (arith, ints)

pub between_parts : (low high z : ℤ) → between low z high ≡ true → (low ≤ℤ z) × (z ≤ℤ high)
between_parts low high z h = grind (arith, ints, between_tells)

pub is_above : (low z high : ℤ) → high <ℤ z → between low z high ≡ false
is_above low z high a = grind (arith, ints, between_tells)

pub is_below : (low z high : ℤ) → z <ℤ low → between low z high ≡ false
is_below low z high a = grind (arith, ints, between_tells)

-- a number between the inner ends is between the outer ones
pub still_between : (first last low high z : ℤ) → low ≤ℤ first → last ≤ℤ high
    → between first z last ≡ true → between low z high ≡ true
still_between first last low high z f g h = grind (arith, ints, between_tells)
