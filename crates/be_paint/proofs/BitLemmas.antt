-- The bits of a mask.
use Rattle.std.proofs.Common.{rules, ◌≡◌, ℕ, ◌+◌, ◌-◌, ◌*◌, ◌/◌, ◌%◌, ◌^◌, ◌<◌, ◌≤◌, ◌==◌, ◌&&◌, ◌||◌, false, max, ap, ap₂, sym, ◌∙◌, ⊎_elim, arith}
use Rattle.std.specs.Int.{bit_at}
use Rattle.std.specs.Int.Bits.{bit_or}
use Rattle.std.proofs.lemmas.Bool.{cases_lt, lt-ltb}
use Rattle.std.proofs.lemmas.Bool.Decides.{nat_tests}
use Rattle.std.proofs.lemmas.Nat.{shr-shr}
use Rattle.std.proofs.lemmas.Nat.Bits.{bit_at-zero, bit_at-lt, bit_at_or, bit_at_above}
use Rattle.be_facts.proofs.Numbers.{kept_bit, shifted_below, shifted_bit}
use Rattle.be_font.specs.Runs.{row_bit}
use Rattle.be_font.proofs.RunLemmas.{row_bit-past}
use Rattle.be_span.specs.Slices.{mask_bit}
use Rattle.be_span.proofs.MaskLemmas.{mask_unset, mask_within}

-- ---- single bits

shr_bit : (a n i : ℕ) → bit_at (a / 2 ^ n) i ≡ bit_at a (n + i)
shr_bit a n i = ap (λ m. m % 2) (shr-shr a n i)

rest_below : (a w : ℕ) → (a % 2 ^ w) < 2 ^ w
rest_below a w = search rules

pub mask_none : (k : ℕ) → mask_bit 0 k ≡ false
mask_none k = mask_unset 0 k (bit_at-zero (63 - k))

row_within : (byte column : ℕ) → column < 8 → row_bit byte column ≡ (bit_at byte (7 - column) == 1)
unfolding row_bit
row_within byte column h = ap (λ b. b && (bit_at byte (7 - column) == 1)) (lt-ltb column 8 h)

-- ---- a byte's bits among 64

-- the byte is the highest
abbrev pub at_top : ℕ → ℕ
at_top byte = byte * 2 ^ 56 % 2 ^ 64

at_column : (column : ℕ) → column < 8 → 63 - column - 56 ≡ 7 - column
at_column column h = omega arith

top_bit : (byte column : ℕ) → column < 64 → (bit_at (at_top byte) (63 - column) == 1) ≡ row_bit byte column
top_bit byte column h =
    ap (λ n. n == 1) (kept_bit (byte * 2 ^ 56) 64 (63 - column) (omega arith))
    ∙ ⊎_elim
    (λ within. ap (λ n. n == 1) (shifted_bit byte 56 (63 - column) (omega arith)) ∙ ap (λ i. bit_at byte i == 1) (at_column column within) ∙ sym (row_within byte column within))
    (λ past. ap (λ n. n == 1) (shifted_below byte 56 (63 - column) (omega arith)) ∙ sym (row_bit-past byte column past))
    (cases_lt column 8)

-- moved to the right
pub right_bit : (byte n k column : ℕ) → k < 64 → k ≡ n + column → mask_bit (at_top byte / 2 ^ n) k ≡ row_bit byte column
right_bit byte n k column h at =
    mask_within (at_top byte / 2 ^ n) k h
    ∙ ap (λ b. b == 1) (shr_bit (at_top byte) n (63 - k))
    ∙ ap (λ i. bit_at (at_top byte) i == 1) (let e : n + (63 - k) ≡ 63 - column = omega arith in e)
    ∙ top_bit byte column (omega arith)

pub right_before : (byte n k : ℕ) → k < 64 → k < n → mask_bit (at_top byte / 2 ^ n) k ≡ false
right_before byte n k h less =
    mask_unset (at_top byte / 2 ^ n) k (shr_bit (at_top byte) n (63 - k) ∙ bit_at_above (at_top byte) 64 (n + (63 - k)) (rest_below (byte * 2 ^ 56) 64) (omega arith))

-- moved to the left
pub left_bit : (byte n k column : ℕ) → k < 64 → column ≡ k + n → mask_bit (at_top byte * 2 ^ n % 2 ^ 64) k ≡ row_bit byte column
left_bit byte n k column h at =
    mask_within (at_top byte * 2 ^ n % 2 ^ 64) k h
    ∙ ap (λ b. b == 1) (kept_bit (at_top byte * 2 ^ n) 64 (63 - k) (omega arith))
    ∙ ⊎_elim
    (λ within. ap (λ b. b == 1) (shifted_bit (at_top byte) n (63 - k) (omega arith)) ∙ ap (λ i. bit_at (at_top byte) i == 1) (let e : 63 - k - n ≡ 63 - column = omega arith in e) ∙ top_bit byte column within)
    (λ past. ap (λ b. b == 1) (shifted_below (at_top byte) n (63 - k) (omega arith)) ∙ sym (row_bit-past byte column (omega arith)))
    (cases_lt column 64)

-- moved out of them
pub out_bit : (byte k column : ℕ) → 8 ≤ column → mask_bit 0 k ≡ row_bit byte column
out_bit byte k column h = mask_none k ∙ sym (row_bit-past byte column h)

-- ---- both of two masks

or_one : (a b : ℕ) → a < 2 → b < 2 → (max a b == 1) ≡ ((a == 1) || (b == 1))
or_one a b h k = grind (arith, nat_tests)

pub mask_or : (a b k : ℕ) → k < 64 → mask_bit (bit_or a b) k ≡ (mask_bit a k || mask_bit b k)
mask_or a b k h =
    mask_within (bit_or a b) k h
    ∙ ap (λ n. n == 1) (bit_at_or a b (63 - k))
    ∙ or_one (bit_at a (63 - k)) (bit_at b (63 - k)) (bit_at-lt a (63 - k)) (bit_at-lt b (63 - k))
    ∙ sym (ap₂ (λ b c. b || c) (mask_within a k h) (mask_within b k h))
