-- What the test `between` tells, one fact at a time.
use Rattle.std.proofs.Common.{◌≡◌, ℤ, true, ◌≤ℤ◌, ◌-ℤ◌, ◌∙◌, sym, refl, arith}
use Rattle.std.proofs.lemmas.Int.{ints, by_lt_z}
use Rattle.be_geom.specs.Points.{between}
use Rattle.be_geom.proofs.Between.{between_tells, is_above, is_below, is_between}

pub not_below : (low z high : ℤ) → between low z high ≡ true → low ≤ℤ z
not_below low z high h = grind (arith, ints, between_tells)

pub not_above : (low z high : ℤ) → between low z high ≡ true → z ≤ℤ high
not_above low z high h = grind (arith, ints, between_tells)

-- two tests with the same distances from a number to the ends, the other way round
pub same_between : (low z high low' z' high' : ℤ) → z -ℤ low ≡ high' -ℤ z' → high -ℤ z ≡ z' -ℤ low' → between low z high ≡ between low' z' high'
same_between low z high low' z' high' before behind =
    by_lt_z z low
    (λ less. is_below low z high less ∙ sym (is_above low' z' high' (omega (arith, ints))))
    (λ from. by_lt_z high z
    (λ more. is_above low z high more ∙ sym (is_below low' z' high' (omega (arith, ints))))
    (λ to. is_between low z high from to ∙ sym (is_between low' z' high' (omega (arith, ints)) (omega (arith, ints)))))

-- and in the same order
pub moved_between : (low z high low' z' high' : ℤ) → z -ℤ low ≡ z' -ℤ low' → high -ℤ z ≡ high' -ℤ z' → between low z high ≡ between low' z' high'
moved_between low z high low' z' high' before behind =
    by_lt_z z low
    (λ less. is_below low z high less ∙ sym (is_below low' z' high' (omega (arith, ints))))
    (λ from. by_lt_z high z
    (λ more. is_above low z high more ∙ sym (is_above low' z' high' (omega (arith, ints))))
    (λ to. is_between low z high from to ∙ sym (is_between low' z' high' (omega (arith, ints)) (omega (arith, ints)))))

pub same_ends : (low low' z high high' : ℤ) → low ≡ low' → high ≡ high' → between low z high ≡ between low' z high'
same_ends low low' z high high' e f = rw (e, f) refl
