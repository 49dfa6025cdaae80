-- Cells whose words are alike in the lower 24 bits.
use Rattle.std.proofs.Common.{ℕ, ◌≡◌, ◌+◌, ◌*◌, ◌%◌, ◌/◌, ◌^◌, ◌≤◌, bit_or, bit_xor, bit_and, ap, ◌∙◌, sym, arith}
use Rattle.std.proofs.lemmas.Nat.{or_mod, xor_mod, le_or_l, le_or_r, and_le_l, and_le_r}
use Rattle.std.specs.Int.Bits.{xor_add_and}
use Rattle.be_written.specs.Screens.{tone}

-- where two numbers joined have nothing in the lower bits, neither has
pub or_is_zero : (a b : ℕ) → bit_or a b % 16777216 ≡ 0
    → (a % 16777216 ≡ 0) × (b % 16777216 ≡ 0)
or_is_zero a b none =
    let parts : bit_or (a % 2 ^ 24) (b % 2 ^ 24) ≡ 0 = sym (or_mod a b 24) ∙ none in
    (omega (arith, le_or_l (a % 2 ^ 24) (b % 2 ^ 24)), omega (arith, le_or_r (a % 2 ^ 24) (b % 2 ^ 24)))

-- where they don't differ in the lower bits, their colours are one
pub xor_is_zero : (a b : ℕ) → bit_xor a b % 16777216 ≡ 0 → tone a ≡ tone b
xor_is_zero a b none =
    let low : ℕ = a % 2 ^ 24 in
    let high : ℕ = b % 2 ^ 24 in
    let parts : bit_xor low high ≡ 0 = sym (xor_mod a b 24) ∙ none in
    let same : a % 16777216 ≡ b % 16777216 =
    omega (arith, xor_add_and low high, and_le_l low high, and_le_r low high) in
    let split : (n : ℕ) → tone n ≡ tone (n % 16777216) =
    λ n. ap (λ r. record { red = r; green = n / 256 % 256; blue = n / 65536 % 256 }) (omega arith)
    ∙ ap (λ g. record { red = n % 16777216 % 256; green = g; blue = n / 65536 % 256 }) (omega arith)
    ∙ ap (λ b. record { red = n % 16777216 % 256; green = n % 16777216 / 256 % 256; blue = b })
    (omega arith) in
    split a ∙ ap tone same ∙ sym (split b)
