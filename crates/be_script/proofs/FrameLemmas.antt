-- Frames of windows within their limits.
use Rattle.std.specs.Prelude.{pos, ◌-ℤ◌, ◌≤ℤ◌, true, ◌&&◌, nat_le, slice_get}
use Rattle.std.proofs.Common.{◌≡◌, arith, ℕ, Some}
use Rattle.std.proofs.lemmas.Int.{ints}
use Rattle.be_facts.proofs.Lists.{all_at}
use Rattle.be_facts.proofs.Truths.{and_first}
use Rattle.be_geom.specs.declared.rect.Rect.{Rect}
use Rattle.be_geom.proofs.Between.{between_tells}
use Rattle.be_script.specs.Limits.{is_frame, IsWithinLimits, is_window_line}
use Rattle.be_script.specs.Script.{Declared}
use Rattle.be_script.specs.declared.WindowLine.{WindowLine}

-- how far its edges are apart
pub record IsSized (r : Rect) : Type 0 where
  pub across : pos 0 ≤ℤ (r.right -ℤ r.left)
  pub wide : (r.right -ℤ r.left) ≤ℤ pos 32767
  pub down : pos 0 ≤ℤ (r.bottom -ℤ r.top)
  pub high : (r.bottom -ℤ r.top) ≤ℤ pos 32767

pub frame_sized : (r : Rect) → is_frame r ≡ true → IsSized r
frame_sized r is = record {
  across = grind (arith, ints, between_tells);
  wide = grind (arith, ints, between_tells);
  down = grind (arith, ints, between_tells);
  high = grind (arith, ints, between_tells);
}

-- a window of a script within its limits
pub line_framed : (d : Declared) (w : ℕ) (line : WindowLine) → IsWithinLimits d → slice_get d.windows w ≡ Some line → is_frame line.frame ≡ true
line_framed d w line limits got =
    and_first (is_frame line.frame) (nat_le 1 line.port) (and_first (is_frame line.frame && nat_le 1 line.port) (nat_le line.port 100) (all_at is_window_line d.windows w line limits.windows got))
