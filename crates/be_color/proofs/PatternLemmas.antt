-- Patterns whose rows are the same.
use Rattle.std.proofs.Common.{◌≡◌, ℕ, ◌-◌, ◌<◌, ℤ, pos, negsuc, Bool, true, false, eqb, List, refl, ap, ◌∙◌, arith}
use Rattle.std.specs.Prelude.{slice_index}
use Rattle.std.specs.Int.{bit_at}
use Rattle.std.proofs.lemmas.Bool.{agree_below_at, eqb-true}
use Rattle.be_color.specs.Pattern.{alike_rows, place_in_pattern, pattern_bit}

place_below : (z : ℤ) → place_in_pattern z < 8
unfolding place_in_pattern
place_below (pos n) = omega arith
place_below (negsuc n) = omega arith

-- where each row is one byte, and each bit of the byte is the same
each_bit : (rows : List ℕ) (byte : ℕ) (bit : Bool) (x y : ℤ) → rows ≡ alike_rows byte → ((i : ℕ) → i < 8 → eqb (slice_index (alike_rows byte) i) byte ≡ true) → ((i : ℕ) → i < 8 → eqb (bit_at byte i) 1 ≡ bit) → pattern_bit rows x y ≡ bit
unfolding pattern_bit
each_bit rows byte bit x y is rows_are bits_are =
    ap (λ l. eqb (bit_at (slice_index l (place_in_pattern y)) (7 - place_in_pattern x)) 1) is ∙ ap (λ b. eqb (bit_at b (7 - place_in_pattern x)) 1) (eqb-true (slice_index (alike_rows byte) (place_in_pattern y)) byte (rows_are (place_in_pattern y) (place_below y))) ∙ bits_are (7 - place_in_pattern x) (omega arith)

pub ones : (rows : List ℕ) (x y : ℤ) → rows ≡ alike_rows 255 → pattern_bit rows x y ≡ true
ones rows x y is =
    each_bit rows 255 true x y is (λ i h. agree_below_at (λ n. eqb (slice_index (alike_rows 255) n) 255) (λ n. true) 8 i refl h) (λ i h. agree_below_at (λ n. eqb (bit_at 255 n) 1) (λ n. true) 8 i refl h)

pub zeros : (rows : List ℕ) (x y : ℤ) → rows ≡ alike_rows 0 → pattern_bit rows x y ≡ false
zeros rows x y is =
    each_bit rows 0 false x y is (λ i h. agree_below_at (λ n. eqb (slice_index (alike_rows 0) n) 0) (λ n. true) 8 i refl h) (λ i h. agree_below_at (λ n. eqb (bit_at 0 n) 1) (λ n. false) 8 i refl h)
