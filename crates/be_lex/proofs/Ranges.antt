-- Which numbers lie in a range.
use Rattle.std.proofs.Common.{◌≡◌, ℤ, pos, negsuc, ◌≤ℤ◌, ℕ, zero, suc, ◌<◌, ◌≤◌, ◌^◌, Bool, true, false, List, sym, ap, ◌∙◌, arith}
use Rattle.std.specs.Prelude.{unsigned_abs, neg_ℤ, not, codes}
use Rattle.std.specs.Str.{bytes_eq}
use Rattle.std.specs.Str.Parse.{digits_value}
use Rattle.std.proofs.lemmas.Bool.{and_parts}
use Rattle.std.proofs.lemmas.Bool.Decides.{nat_tests}
use Rattle.std.proofs.lemmas.Int.{ints}
use Rattle.be_geom.specs.Points.{between}
use Rattle.be_geom.proofs.Between.{between_tells}
use Rattle.be_lex.specs.Numbers.{is_natural, is_signed, signed}
use Rattle.be_lex.proofs.Digits.{digits_value_positive}

-- a natural number lies between 0 and another where it is no greater
pub between_naturals : (v high : ℕ) → v ≤ high → between (pos 0) (pos v) (pos high) ≡ true
between_naturals v high le = let t = between_tells (pos 0) (pos v) (pos high) in grind (arith, ints)

pub between_naturals_le : (v high : ℕ) → between (pos 0) (pos v) (pos high) ≡ true → v ≤ high
between_naturals_le v high h = let t = between_tells (pos 0) (pos v) (pos high) in grind (arith, ints)

below_zero : (n : ℕ) (high : ℤ) → 0 < n → between (pos 0) (neg_ℤ (pos n)) high ≡ true → ⊥
below_zero zero high lt h = absurd (omega arith)
below_zero (suc n) high lt h = let t = between_tells (pos 0) (negsuc n) high in grind (arith, ints)

-- a number with a `-` is below 0, since there is no `-0`
pub signed_below_zero : (negative : Bool) (digits : List ℕ) (z high : ℤ) → negative ≡ true → is_signed negative digits ≡ true → signed negative digits ≡ z → between (pos 0) z high ≡ true → ⊥
signed_below_zero true digits z high e h same in_range =
    let parts = and_parts (is_natural digits) (not (bytes_eq digits (codes "0"))) h in
    below_zero (digits_value 10 digits) high (digits_value_positive digits parts.0 (grind (arith, nat_tests))) (rw same in_range)
signed_below_zero false digits z high e h same in_range = absurd cc

-- and one without is what its digits write
pub unsigned_is : (negative : Bool) (digits : List ℕ) (z : ℤ) → negative ≡ false → signed negative digits ≡ z → z ≡ pos (digits_value 10 digits)
unsigned_is negative digits z e same = sym same ∙ ap (λ b. signed b digits) e

-- what lies between two numbers of 32 bits has 63 bits
pub between_is_small : (low z high : ℤ) → negsuc 2147483647 ≤ℤ low → high ≤ℤ pos 2147483647 → between low z high ≡ true → unsigned_abs z < 2 ^ 63
between_is_small low (pos n) high l h b = let t = between_tells low (pos n) high in grind (arith, ints)
between_is_small low (negsuc n) high l h b = let t = between_tells low (negsuc n) high in grind (arith, ints)
