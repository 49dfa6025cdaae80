-- Facts on numbers, and on tests of numbers.
use Rattle.std.proofs.Common.{◌≡◌, ℕ, ◌<◌, true, nat_lt, arith, ◌+◌, ◌*◌, ◌==◌, refl, eq-eqb, ◌≤◌}
use Rattle.std.proofs.Common.{false, ℤ, pos, negsuc, ◌≤ℤ◌, unsigned_abs, suc, rules, ◌^◌, ◌-◌, ap}
use Rattle.std.proofs.Common.{◌∙◌, ◌/◌, ◌%◌, sym, SFits, w16, ◌-ℤ◌, ◌<ℤ◌, ◌+ℤ◌}
use Rattle.std.proofs.lemmas.Bool.Decides.{nat_tests}
use Rattle.std.specs.Prelude.{nat_le}
use Rattle.std.proofs.lemmas.Int.{ints}
use Rattle.std.specs.Int.{bit_at}
use Rattle.std.proofs.lemmas.Nat.Bits.{bit_at_cat_high, bit_at_cat_low, bit_at-zero}
use Rattle.std.proofs.lemmas.Nat.{shr_split}

-- ---- tests

pub nat_lt_from : (a b : ℕ) → a < b → nat_lt a b ≡ true
nat_lt_from a b h = grind (arith, nat_tests)

pub nat_lt_tells : (v n : ℕ) → nat_lt v n ≡ true → v < n
nat_lt_tells v n e = grind (arith, nat_tests)

pub nat_le_tells : (n k : ℕ) → nat_le n k ≡ true → n ≤ k
nat_le_tells n k e = grind (arith, nat_tests)

pub eq_self : (n : ℕ) → (n == n) ≡ true
eq_self n = eq-eqb n n refl

pub eq_tells : (a b : ℕ) → (a == b) ≡ true → a ≡ b
eq_tells a b h = grind (arith, nat_tests)

pub eq_false : (p n : ℕ) → (p ≡ n → ⊥) → (p == n) ≡ false
eq_false p n h = grind (arith, nat_tests, h)

pub eq_false_tells : (m n : ℕ) → (m == n) ≡ false → m ≡ n → ⊥
eq_false_tells m n e same = grind (arith, nat_tests)

pub suc_is_not_zero : (n : ℕ) → (suc n == 0) ≡ false
suc_is_not_zero n = grind (arith, nat_tests)

-- ---- natural numbers

pub suc_more : (k : ℕ) → suc k + 1 ≡ suc (k + 1)
suc_more k = omega arith

pub with_zero : (m : ℕ) → m ≡ m + 0
with_zero m = omega arith

pub index_below : (x y width height : ℕ) → x < width → y < height → y * width + x < width * height
index_below x y width height a b = grind (arith)

pub power_is_positive : (n : ℕ) → 0 < 2 ^ n
power_is_positive n = search rules

pub shifted_bit : (a n i : ℕ) → n ≤ i → bit_at (a * 2 ^ n) i ≡ bit_at a (i - n)
shifted_bit a n i h = ap (λ m. bit_at m i) (with_zero (a * 2 ^ n)) ∙ bit_at_cat_high a n 0 i (power_is_positive n) h

pub shifted_below : (a n i : ℕ) → i < n → bit_at (a * 2 ^ n) i ≡ 0
shifted_below a n i h =
    ap (λ m. bit_at m i) (with_zero (a * 2 ^ n)) ∙ bit_at_cat_low a n 0 i h ∙ bit_at-zero i

-- the bits that a number of w bits keeps
pub kept_bit : (a w i : ℕ) → i < w → bit_at (a % 2 ^ w) i ≡ bit_at a i
kept_bit a w i h = sym (bit_at_cat_low (a / 2 ^ w) w (a % 2 ^ w) i h) ∙ ap (λ n. bit_at n i) (shr_split a w)

-- ---- integers

pub int_le_self : (z : ℤ) → z ≤ℤ z
int_le_self z = omega (arith, ints)

pub plus_zero : (z : ℤ) → z +ℤ pos 0 ≡ z
plus_zero z = omega (arith, ints)

pub minus_zero : (z : ℤ) → z -ℤ pos 0 ≡ z
minus_zero z = omega (arith, ints)

pub unsigned_abs_is : (d : ℤ) → pos 0 ≤ℤ d → pos (unsigned_abs d) ≡ d
unsigned_abs_is (pos n) h = refl
unsigned_abs_is (negsuc n) h = absurd (omega (arith, ints))

pub unsigned_abs_less : (p q : ℤ) → pos 0 ≤ℤ p → p <ℤ q → unsigned_abs p < unsigned_abs q
unsigned_abs_less p q low less = let a = unsigned_abs_is p low in let b = unsigned_abs_is q (omega (arith, ints)) in omega (arith, ints)

pub fits_16 : (z : ℤ) → negsuc 32767 ≤ℤ z → z ≤ℤ pos 32767 → SFits w16 z
fits_16 z low high = search rules

pub fits_between : (z low high : ℤ) → SFits w16 low → SFits w16 high → low ≤ℤ z → z ≤ℤ high → SFits w16 z
fits_between z low high f g h k = search rules
