-- The bits of a mask that is moved to the left.
use Rattle.std.proofs.Common.{◌≡◌, ℕ, ◌+◌, ◌-◌, ◌*◌, ◌%◌, ◌^◌, ◌<◌, ◌≤◌, ◌==◌}
use Rattle.std.proofs.Common.{ap, sym, ◌∙◌, ⊎_elim, ◌⊎◌, arith, inl, inr}
use Rattle.std.specs.Int.{bit_at}
use Rattle.std.proofs.lemmas.Bool.{cases_lt}
use Rattle.be_facts.proofs.Numbers.{kept_bit, shifted_below, shifted_bit}
use Rattle.be_span.specs.Slices.{mask_bit}
use Rattle.be_span.proofs.MaskLemmas.{mask_past, mask_within}

pub mask_moved : (m n k : ℕ) → mask_bit (m * 2 ^ n % 2 ^ 64) k ≡ mask_bit m (n + k)
mask_moved m n k =
    ⊎_elim (λ in_it. inside in_it (cases_lt (63 - k) n))
    (λ past. mask_past (m * 2 ^ n % 2 ^ 64) k past
    ∙ sym (mask_past m (n + k) (omega (arith, past))))
    (cases_lt k 64)
  where
    kept : k < 64 → mask_bit (m * 2 ^ n % 2 ^ 64) k ≡ (bit_at (m * 2 ^ n) (63 - k) == 1)
    kept h = mask_within (m * 2 ^ n % 2 ^ 64) k h
        ∙ ap (λ b. b == 1) (kept_bit (m * 2 ^ n) 64 (63 - k) (omega (arith, h)))

    inside : k < 64 → ((63 - k) < n) ⊎ (n ≤ (63 - k))
        → mask_bit (m * 2 ^ n % 2 ^ 64) k ≡ mask_bit m (n + k)
    inside h (inl out) = kept h ∙ ap (λ b. b == 1) (shifted_below m n (63 - k) out)
        ∙ sym (mask_past m (n + k) (omega (arith, h, out)))
    inside h (inr here) = kept h ∙ ap (λ b. b == 1) (shifted_bit m n (63 - k) here)
        ∙ ap (λ i. bit_at m i == 1) (same h here) ∙ sym (mask_within m (n + k) (omega (arith, h, here)))
      where
        same : k < 64 → n ≤ (63 - k) → 63 - k - n ≡ 63 - (n + k)
        same h here = omega (arith, h, here)
