-- Where the bits of masks may be.
use Rattle.std.proofs.Common.{◌≡◌, ◌-◌, ◌<◌, ℕ, ℤ, pos, negsuc, ◌==◌, true, List, sym, arith}
use Rattle.std.specs.Int.{bit_at}
use Rattle.std.specs.Prelude.{nat_lt, slice_index}
use Rattle.std.proofs.lemmas.Bool.{and_parts, true≢false}
use Rattle.std.proofs.lemmas.Bool.Decides.{nat_tests}
use Rattle.std.proofs.lemmas.Int.{ints}
use Rattle.be_geom.specs.declared.rect.Rect.{Rect}
use Rattle.be_geom.specs.Rects.{rect_has}
use Rattle.be_span.specs.Slices.{mask_bit}
use Rattle.be_span.proofs.GridLemmas.{has_from}
use Rattle.be_descent.specs.Inks.{masks_bit}

-- a bit that is set is one of 64 in one of seven rows
pub in_bits : (bits : Rect) (masks : List ℕ) (u v : ℤ) → bits.left ≡ pos 0 → bits.top ≡ pos 0
    → bits.right ≡ pos 63 → bits.bottom ≡ pos 6 → masks_bit masks u v ≡ true
    → rect_has bits u v ≡ true
in_bits bits masks (pos k) (pos row) l t r b e =
    let parts = and_parts (nat_lt row 7) (mask_bit (slice_index masks row) k) e in
    let low = parts.0 in
    let near = (and_parts (nat_lt k 64) (bit_at (slice_index masks row) (63 - k) == 1) parts.1).0 in
    let few : row < 7 = grind (arith, nat_tests) in
    let narrow : k < 64 = grind (arith, nat_tests) in
    has_from bits (pos k) (pos row) record {
      left = omega (arith, ints);
      right = omega (arith, ints);
      top = omega (arith, ints);
      bottom = omega (arith, ints);
    }
in_bits bits masks (pos k) (negsuc row) l t r b e = absurd (true≢false (sym e))
in_bits bits masks (negsuc k) v l t r b e = absurd (true≢false (sym e))
