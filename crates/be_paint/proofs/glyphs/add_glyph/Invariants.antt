use Rattle.std.proofs.Common.{◌≡◌, ℕ, pos, ◌<◌, ◌≤◌, ◌-ℤ◌, ◌||◌, length, slice_index}
use Rattle.be_span.specs.Slices.{mask_bit}
use Rattle.be_paint.specs.Inks.{glyph_covers}
use Rattle.be_paint.proofs.glyphs.add_glyph.Given as goal

abbrev pub invariant-loop-row : goal.invariant-loop-row
invariant-loop-row l = record {
  within : l.row ≤ 7;
  seven : length l.masks ≡ 7;
  done : (k row : ℕ) → k < 64 → row < l.row → mask_bit (slice_index l.masks row) k ≡ (mask_bit (slice_index l.fn.masks row) k || glyph_covers l.fn.code (pos k -ℤ l.fn.left) (pos row));
  kept : (row : ℕ) → l.row ≤ row → slice_index l.masks row ≡ slice_index l.fn.masks row;
}
